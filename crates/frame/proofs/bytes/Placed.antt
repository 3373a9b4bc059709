-- Laws of memory that is written over.
use mathlib.Core.Path.{◌≡◌, refl, sym, ap, ◌∙◌}
use mathlib.Core.List.{List, [], ◌∷◌, ◌++◌, append_assoc, append-nil}
use Prim.Native.Nat.{ℕ, suc, ◌+◌, ◌-◌, ◌≤◌, ◌<◌}
use native.Mathlib.Omega.{arith}
use native.Mathlib.Numerals.{add-one}
use lib.ListN.{length, take, drop, set, length-append, length-drop, drop_of_length-le}
use lib.Seq.{take_all, paste, paste-zero, length-paste, take-length, length-take-le, take-append-le}
use lib.Seq.{take-take, take_at, drop_at, set_split, append_snoc, drop-drop}
use borrow.Rule.Slice.PartMut.{put_mid}
use Rattle.frame.specs.Bytes.{placed}

-- A whole copy is a run placed.
pub pasted : (out : List ℕ) (at : ℕ) (u : List ℕ) → paste out at u (length u) ≡ placed out at u
unfolding placed
pasted out at u = ap (λ (v : List ℕ). take at out ++ v ++ drop (at + length u) out) (take-length u)

-- Nothing placed leaves all as it was.
pub placed_none : (out : List ℕ) (at : ℕ) → out ≡ placed out at []
unfolding placed
placed_none out at = paste-zero out at []

-- One store is a run of one byte placed.
pub stored : (out : List ℕ) (at b : ℕ) → at < length out → set out at b ≡ placed out at (b ∷ [])
unfolding placed
stored out at b h = set_split out at b h ∙ rw (add-one, append_snoc)

-- One byte more, stored right before a run that was placed.
pub stored_before :
    (out : List ℕ) (at b : ℕ) (u : List ℕ)
    → suc at + length u ≤ length out
    → set (placed out (suc at) u) at b ≡ placed out at (b ∷ u)
unfolding placed
stored_before out at b u fits =
    let rest : List ℕ = drop (suc at + length u) out in
    let whole : List ℕ = take (suc at) out ++ u ++ rest in
    let size : length (take (suc at) out) ≡ suc at = length-take-le (suc at) out (omega arith) in
    let grouped : whole ≡ take (suc at) out ++ (u ++ rest) = append_assoc (take (suc at) out) u rest in
    let front : take at whole ≡ take at out =
    ap (take at) grouped ∙ take-append-le at (take (suc at) out) (u ++ rest) (omega (arith, size)) ∙ take-take at (suc at) out (omega arith) in
    let back : drop (suc at) whole ≡ u ++ rest = ap (drop (suc at)) grouped ∙ drop_at (take (suc at) out) (u ++ rest) (suc at) size in
    let same : suc at + length u ≡ at + length (b ∷ u) = omega arith in
    set_split whole at b (omega (arith, ap length grouped, length-append (take (suc at) out) (u ++ rest), size))
    ∙ (λ i. front i ++ b ∷ back i)
    ∙ sym (append_assoc (take at out) (b ∷ u) rest)
    ∙ ap (λ (n : ℕ). take at out ++ (b ∷ u) ++ drop n out) same

-- A run that stands before the rest of lent memory is placed at its start.
pub placed_start : (out u : List ℕ) (n : ℕ) → n ≡ length u → u ++ drop n out ≡ placed out 0 u
unfolding placed
placed_start out u n e = ap (λ (m : ℕ). u ++ drop m out) (e ∙ omega arith)

-- What is placed at the start of a part that goes to the end is placed at the part's place.
pub tail_placed :
    (out : List ℕ) (at : ℕ) (u : List ℕ) {o : List ℕ}
    → o ≡ placed (take (length out - at) (drop at out)) 0 u
    → put_mid at (length out - at) out o ≡ placed out at u
unfolding placed
tail_placed out at u e =
    let k = length out - at in
    let tail : take k (drop at out) ≡ drop at out = take_all k (drop at out) (omega (arith, length-drop at out)) in
    let none : drop k (drop at out) ≡ [] = drop_of_length-le (drop at out) {i = k} (omega (arith, length-drop at out)) in
    let moved = e ∙ ap (λ (s : List ℕ). u ++ drop (0 + length u) s) tail ∙ ap (λ (s : List ℕ). u ++ s) (drop-drop (0 + length u) at out) in
    (λ i. take at out ++ (moved i ++ none i))
    ∙ ap (λ (s : List ℕ). take at out ++ s) (append-nil (u ++ drop (at + (0 + length u)) out))
    ∙ sym (append_assoc (take at out) u (drop (at + (0 + length u)) out))
    ∙ ap (λ (n : ℕ). take at out ++ u ++ drop (at + n) out) (omega arith)

module _ (out : List ℕ) (at : ℕ) (u : List ℕ) (fits : at + length u ≤ length out) where
  pub length_placed : length (placed out at u) ≡ length out
  unfolding placed
  length_placed = ap length (sym (pasted out at u)) ∙ length-paste out at u (length u) fits (omega arith)

  -- what was placed is found again
  pub part_placed : take (length u) (drop at (placed out at u)) ≡ u
  unfolding placed
  part_placed =
      ap (take (length u))
      (ap (drop at) (append_assoc (take at out) u (drop (at + length u) out))
      ∙ drop_at (take at out) (u ++ drop (at + length u) out) at (length-take-le at out (omega arith)))
      ∙ take_at u (drop (at + length u) out) (length u) refl

  head_length : length (take at out ++ u) ≡ at + length u
  head_length = length-append (take at out) u ∙ ap (λ (n : ℕ). n + length u) (length-take-le at out (omega arith))

  -- a run placed right behind another is the two placed together
  pub placed_behind : (v : List ℕ) → placed (placed out at u) (at + length u) v ≡ placed out at (u ++ v)
  unfolding placed
  placed_behind v =
      let n : ℕ = at + length u in
      let rest : List ℕ = drop n out in
      let front : take n (take at out ++ u ++ rest) ≡ take at out ++ u = take_at (take at out ++ u) rest n head_length in
      let back : drop (n + length v) (take at out ++ u ++ rest) ≡ drop (n + length v) out =
      sym (drop-drop (length v) n (take at out ++ u ++ rest))
      ∙ ap (drop (length v)) (drop_at (take at out ++ u) rest n head_length)
      ∙ drop-drop (length v) n out in
      let size : n + length v ≡ at + length (u ++ v) = omega (arith, length-append u v) in
      (λ i. front i ++ v ++ back i) ∙ (λ i. append_assoc (take at out) u v i ++ drop (size i) out)

-- The same for memory as calls leave it, each place known by an equation.
pub joined :
    (out : List ℕ) (at : ℕ) (u v : List ℕ) {o o' : List ℕ} {n : ℕ}
    → o ≡ placed out at u
    → o' ≡ placed o n v
    → n ≡ at + length u
    → at + length u ≤ length out
    → o' ≡ placed out at (u ++ v)
joined out at u v e e' p fits = e' ∙ (λ i. placed (e i) (p i) v) ∙ placed_behind out at u fits v
