-- Laws of the 24 bytes of a state.
use Rattle.std.proofs.Common.{◌≡◌, ℕ, suc, ◌+◌, ◌-◌, ◌<◌, ◌≤◌, min, Bool, true, false, cond, leb, List, [], ◌∷◌, ◌++◌, length}
use Rattle.std.proofs.Common.{get_or, set, take, drop, replicate, sym, refl}
use Rattle.std.proofs.Common.{ap, ◌∙◌, arith, length-take-le, take_all, drop-drop}
use Rattle.std.proofs.Common.{leb-false, leb-true}
use Rattle.std.specs.Int.{w64, to_be_bytes}
use Rattle.std.proofs.lemmas.List.{drop-replicate, take-take}
use mir.Val.{bool_byte}
use lib.Seq.{paste, paste-suc, take-append-le}
use Rattle.frame.proofs.bytes.Laws.{cases}
use Rattle.stream.specs.declared.state.StreamState.{StreamState}
use Rattle.stream.specs.Record.{frame_record_size}
use Rattle.stream.specs.State.{stopped_place, count_place, held_place, most_held, bytes_of}
use Rattle.stream.specs.Inner.{standing}

-- More than there are places for count as so many.
pub held_first : (held : List ℕ) (n b : ℕ) → length held ≡ most_held → take (min n most_held) (held ++ b ∷ []) ≡ take n held
held_first held n b e =
    take-append-le (min n most_held) held (b ∷ []) (omega (arith, e)) ∙ least held (sym e)
  where
    least : (u : List ℕ) {m : ℕ} → m ≡ length u → take (min n m) u ≡ take n u
    least u {m} f =
        cases (leb n m)
        (λ l.
        let le : n ≤ m = leb-true n m l in
        let same : min n m ≡ n = omega arith in
        ap (λ (k : ℕ). take k u) same)
        (λ l.
        let lt : m < n = leb-false n m l in
        let all : take (min n m) u ≡ u = take_all (min n m) u (omega arith) in
        all ∙ sym (take_all n u (omega arith)))

-- One place more of the bytes that are put over others, as many as are held.
module _ (d s : List ℕ) (n i : ℕ) {u : List ℕ} (so_far : u ≡ paste d held_place s (min i n)) where
  pub put_on : {b : ℕ} → i < n → b ≡ get_or s i 0 → held_place + i < length d → i < length s → set u (held_place + i) b ≡ paste d held_place s (min (i + 1) n)
  put_on l e h g =
      let here : min i n ≡ i = omega arith in
      let next : min (i + 1) n ≡ suc i = omega arith in
      (λ k. set ((so_far ∙ ap (paste d held_place s) here) k) (held_place + i) (e k))
      ∙ paste-suc d held_place s i 0 h g
      ∙ ap (paste d held_place s) (sym next)

  pub put_past : n ≤ i → u ≡ paste d held_place s (min (i + 1) n)
  put_past l = let same : min i n ≡ min (i + 1) n = omega arith in so_far ∙ ap (paste d held_place s) same

-- The bytes held, put over the zeros behind the place, the flag and the count, are the bytes of the state.
abbrev pub head_of : StreamState → List ℕ
head_of s = to_be_bytes w64 s.place ++ cond s.stopped 1 0 ∷ s.count ∷ replicate most_held 0

flag : (t : Bool) → bool_byte t ≡ cond t 1 0
flag true = refl
flag false = refl

-- As the code makes it, of zeros.
abbrev pub over_zeros : List ℕ → StreamState → List ℕ
over_zeros place s = set (set (place ++ replicate 16 0) stopped_place (bool_byte s.stopped)) count_place s.count

pub is_head : (s : StreamState) {place : List ℕ} → place ≡ to_be_bytes w64 s.place → over_zeros place s ≡ head_of s
is_head s e = (λ i. set (set (e i ++ replicate 16 0) stopped_place (flag s.stopped i)) count_place s.count)

pub bytes_put :
    (s : StreamState)
    → length s.held ≡ frame_record_size
    → s.count ≤ most_held
    → paste (head_of s) held_place (take most_held s.held) s.count ≡ bytes_of (standing s)
unfolding bytes_of
bytes_put s room few =
    let size : length (take s.count s.held) ≡ s.count = length-take-le s.count s.held (omega (arith, room, few)) in
    let held : take s.count (take most_held s.held) ≡ take s.count s.held = take-take s.count most_held s.held few in
    let zeros : drop (held_place + s.count) (head_of s) ≡ replicate (most_held - length (take s.count s.held)) 0 =
    sym (drop-drop s.count held_place (head_of s))
    ∙ drop-replicate s.count most_held 0
    ∙ ap (λ (n : ℕ). replicate (most_held - n) 0) (sym size) in
    (λ i. to_be_bytes w64 s.place ++ cond s.stopped 1 0 ∷ sym size i ∷ (held i ++ zeros i))
