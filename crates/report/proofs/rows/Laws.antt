-- Laws of rows: how long they are, and rows put one behind the other.
use mathlib.Core.Path.{◌≡◌, refl, sym, ap, ◌∙◌}
use mathlib.Core.List.{List, [], ◌∷◌, ◌++◌, append_assoc, append-nil}
use Prim.Native.Nat.{ℕ, zero, suc, ◌+◌, ◌-◌, ◌*◌, ◌≤◌, ◌<◌}
use native.Mathlib.Omega.{arith}
use native.Mathlib.Numerals.{add-one}
use borrow.Rule.Slice.PartMut.{put_mid}
use lib.ListN.{length, take, drop, get_or, length-append}
use lib.Seq.{take-suc, take-add, take_all}
use lib.IntN.{pos}
use lib.Ieee.{nan}
use Rattle.frame.specs.Bytes.{placed}
use Rattle.frame.proofs.bytes.Placed.{placed_none, length_placed, joined}
use Rattle.report.specs.declared.line.Line.{Line}
use Rattle.report.specs.declared.line.Line.TheVariants.{Number}
use Rattle.report.specs.Rows.{number_row_size, row, rows_of}
use Rattle.report.specs.Inner.{HoldsFraction, AllHold}
use Rattle.report.proofs.row.Laws.{lent_length, lent_placed, row_most}

pub rows_append : (a b : List Line) → rows_of (a ++ b) ≡ rows_of a ++ rows_of b
unfolding rows_of
rows_append [] b = refl
rows_append (l ∷ a) b = ap (λ (u : List ℕ). row l ++ u) (rows_append a b) ∙ sym (append_assoc (row l) (rows_of a) (rows_of b))

pub rows_snoc : (ls : List Line) (l : Line) → length (rows_of (ls ++ l ∷ [])) ≡ length (rows_of ls) + length (row l)
unfolding rows_of
rows_snoc ls l =
    ap length (rows_append ls (l ∷ []) ∙ ap (λ (s : List ℕ). rows_of ls ++ s) (append-nil (row l)))
    ∙ length-append (rows_of ls) (row l)

pub rows_length : (ls : List Line) → length (rows_of ls) ≤ number_row_size * length ls
unfolding rows_of
rows_length [] = omega arith
rows_length (l ∷ ls) = omega (arith, length-append (row l) (rows_of ls), row_most l, rows_length ls)

-- Fewer rows are no longer.
rows_front : (ls : List Line) (i n : ℕ) → i ≤ n → length (rows_of (take i ls)) ≤ length (rows_of (take n ls))
rows_front ls i n h =
    let all : i + (n - i) ≡ n = omega arith in
    let rest : List Line = take (n - i) (drop i ls) in
    let split : rows_of (take n ls) ≡ rows_of (take i ls) ++ rows_of rest =
    ap (λ (m : ℕ). rows_of (take m ls)) (sym all) ∙ ap rows_of (take-add i (n - i) ls) ∙ rows_append (take i ls) rest in
    omega (arith, ap length split, length-append (rows_of (take i ls)) (rows_of rest))

pub holds_at : (ls : List Line) (i : ℕ) (d : Line) → i < length ls → AllHold ls → HoldsFraction (get_or ls i d)
unfolding AllHold
holds_at [] i d h a = absurd (omega arith)
holds_at (l ∷ ls) zero d h a = a.0
holds_at (l ∷ ls) (suc i) d h a = holds_at ls i d (omega arith) a.1

rows_more : (ls : List Line) (i : ℕ) (d : Line) → i < length ls → rows_of (take (i + 1) ls) ≡ rows_of (take i ls) ++ row (get_or ls i d)
unfolding rows_of
rows_more ls i d h =
    ap (λ (m : ℕ). rows_of (take m ls)) (add-one i)
    ∙ ap rows_of (take-suc ls i d h)
    ∙ rows_append (take i ls) _
    ∙ ap (λ (u : List ℕ). rows_of (take i ls) ++ u) (append-nil (row (get_or ls i d)))

-- What stands past the end of lines.
abbrev pub no_line : Line
no_line = Number nan (pos 0) 0

-- The rows of the first i lines stand at the start of lent memory.
pub record Laid (ls : List Line) (out₀ out : List ℕ) (end i : ℕ) : Type 0 where
  pub bounded : i ≤ length ls
  pub bytes : out ≡ placed out₀ 0 (rows_of (take i ls))
  pub behind : end ≡ length (rows_of (take i ls))

pub none_laid : (ls : List Line) (out₀ : List ℕ) → Laid ls out₀ out₀ 0 0
unfolding rows_of
none_laid ls out₀ = record { bounded = omega arith; bytes = placed_none out₀ 0; behind = refl }

module _ (ls : List Line) (out₀ : List ℕ) (fits : length (rows_of ls) ≤ length out₀) where
  room : (i : ℕ) → i ≤ length ls → length (rows_of (take i ls)) ≤ length out₀
  room i h = omega (arith, rows_front ls i (length ls) h, ap (λ (ks : List Line). length (rows_of ks)) (take_all (length ls) ls (omega arith)))

  pub length_laid : (out : List ℕ) (end i : ℕ) → Laid ls out₀ out end i → length out ≡ length out₀
  length_laid out end i k = ap length k.bytes ∙ length_placed out₀ 0 (rows_of (take i ls)) (omega (arith, room i k.bounded))

  pub room_next : (out : List ℕ) (end i : ℕ) → i < length ls → Laid ls out₀ out end i → end + length (row (get_or ls i no_line)) ≤ length out
  room_next out end i h k =
      let more : length (rows_of (take (i + 1) ls)) ≡ length (rows_of (take i ls)) + length (row (get_or ls i no_line)) =
      ap length (rows_more ls i no_line h) ∙ length-append (rows_of (take i ls)) (row (get_or ls i no_line)) in
      omega (arith, more, room (i + 1) (omega arith), length_laid out end i k, k.behind)

  pub one_laid :
      (out : List ℕ) (end i : ℕ)
      → i < length ls
      → Laid ls out₀ out end i
      → {o : List ℕ} {r : ℕ}
      → o ≡ placed (take (length out - end) (drop end out)) 0 (row (get_or ls i no_line))
      → r ≡ length (row (get_or ls i no_line))
      → Laid ls out₀ (put_mid end (length out - end) out o) (end + r) (i + 1)
  one_laid out end i h k e size =
      let rows : List ℕ = rows_of (take i ls) in
      let more = rows_more ls i no_line h in
      let put = lent_placed out end (row (get_or ls i no_line)) e (room_next out end i h k) in
      record {
        bounded = omega arith;
        bytes =
            joined out₀ 0 rows (row (get_or ls i no_line)) k.bytes put (omega (arith, k.behind)) (omega (arith, room i k.bounded))
            ∙ ap (placed out₀ 0) (sym more);
        behind = omega (arith, size, k.behind, ap length more, length-append rows (row (get_or ls i no_line)));
      }

  pub all_laid :
      (out : List ℕ) (end i : ℕ)
      → length ls ≤ i
      → Laid ls out₀ out end i
      → (out ≡ placed out₀ 0 (rows_of ls)) × (end ≡ length (rows_of ls))
  all_laid out end i h k =
      let all = ap rows_of (take_all i ls h) in (k.bytes ∙ ap (placed out₀ 0) all, k.behind ∙ ap length all)

pub ruleset laying = (room_next, all_laid, holds_at, lent_length)
