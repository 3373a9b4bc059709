-- Laws of a run and its check byte, whichever check byte that is.
use mathlib.Core.Path.{◌≡◌, refl, sym, ap, ◌∙◌, subst}
use mathlib.Core.Bool.{true, false, true≢false}
use mathlib.Core.List.{List, [], ◌∷◌, ◌++◌, append_assoc}
use Prim.Native.Nat.{ℕ, suc, ◌+◌, ◌-◌, ◌≤◌, ◌<◌}
use native.Mathlib.Omega.{arith}
use borrow.Author.Tests.{eq-eqb, eqb-true, lt-ltb, ltb-true}
use lib.Dec.{ltb, eqb}
use lib.ListN.{length, take, drop, get_or, length-append, drop_of_length-le}
use lib.Seq.{take_at, get_or_at, split_at}
use Rattle.frame.specs.Bytes.{Bytes, placed}
use Rattle.frame.specs.Seal.{sealed_by, is_sealed_by, OneChanged}
use Rattle.frame.proofs.bytes.Laws.{cases, bytes_front}
use Rattle.frame.proofs.bytes.Placed.{part_placed, joined}

-- A run that is not empty is all but its last byte, and its last byte.
pub unsnoc : (s : List ℕ) → 0 < length s → s ≡ take (length s - 1) s ++ get_or s (length s - 1) 0 ∷ []
unsnoc s h =
    split_at s (length s - 1) 0 (omega arith)
    ∙ ap (λ (t : List ℕ). take (length s - 1) s ++ get_or s (length s - 1) 0 ∷ t) (drop_of_length-le s {i = suc (length s - 1)} (omega arith))

-- A check byte that detects a change of one byte: runs that differ in it have different check bytes.
abbrev pub Detects : (List ℕ → ℕ) → Type 0
Detects check =
    (u v : List ℕ) (x y : ℕ) → Bytes (u ++ x ∷ v) → Bytes (u ++ y ∷ v) → check (u ++ x ∷ v) ≡ check (u ++ y ∷ v) → x ≡ y

module _ (check : List ℕ → ℕ) where
  -- A run with its check byte put behind it: one byte longer, and both are found again.
  pub length_sealed : (s : List ℕ) → length (sealed_by check s) ≡ length s + 1
  unfolding sealed_by
  length_sealed s = length-append s (check s ∷ [])

  pub taken_sealed : (s : List ℕ) → take (length s) (sealed_by check s) ≡ s
  unfolding sealed_by
  taken_sealed s = take_at s (check s ∷ []) (length s) refl

  -- Of a run that is not empty the last byte decides.
  pub last_decides :
      (s : List ℕ) → 0 < length s → is_sealed_by check s ≡ eqb (get_or s (length s - 1) 0) (check (take (length s - 1) s))
  unfolding is_sealed_by
  last_decides s h = rw (lt-ltb 0 (length s) h)

  ends : (u : List ℕ) (x : ℕ) → is_sealed_by check (u ++ x ∷ []) ≡ eqb x (check u)
  ends u x =
      let s : List ℕ = u ++ x ∷ [] in
      let size : length u ≡ length s - 1 = omega (arith, length-append u (x ∷ [])) in
      last_decides s (omega (arith, length-append u (x ∷ [])))
      ∙ (λ i. eqb (get_or_at u x [] 0 (length s - 1) size i) (check (take_at u (x ∷ []) (length s - 1) size i)))

  pub sealed_is : (s : List ℕ) → is_sealed_by check (sealed_by check s) ≡ true
  unfolding sealed_by
  sealed_is s = ends s (check s) ∙ eq-eqb (check s) (check s) refl

  -- What a sealed run is sealed of.
  sealed_last : (s : List ℕ) → is_sealed_by check s ≡ true → (0 < length s) × (get_or s (length s - 1) 0 ≡ check (take (length s - 1) s))
  unfolding is_sealed_by
  sealed_last s e = cases (ltb 0 (length s)) (λ t. (ltb-true _ _ t, eqb-true _ _ (rw t at e))) (λ f. absurd (true≢false (sym e ∙ rw f)))

  pub sealed_again : (s : List ℕ) → is_sealed_by check s ≡ true → sealed_by check (take (length s - 1) s) ≡ s
  unfolding sealed_by
  sealed_again s e =
      let l = sealed_last s e in
      ap (λ (b : ℕ). take (length s - 1) s ++ b ∷ []) (sym l.1) ∙ sym (unsnoc s l.0)

  -- The check byte of what stands from a place on, put right behind a run that was placed there, seals it.
  pub sealed_behind :
      (out : List ℕ) (at : ℕ) (u : List ℕ) {o o' : List ℕ} {from n : ℕ}
      → o ≡ placed out at u
      → o' ≡ placed o n (check (take (n - from) (drop from o)) ∷ [])
      → from ≡ at
      → n ≡ at + length u
      → at + length u ≤ length out
      → o' ≡ placed out at (sealed_by check u)
  unfolding sealed_by
  sealed_behind out at u {o = o} {from = from} {n = n} e e' f p fits =
      let size : n - from ≡ length u = omega (arith, f, p) in
      let found : take (n - from) (drop from o) ≡ u = (λ i. take (size i) (drop (f i) (e i))) ∙ part_placed out at u fits in
      joined out at u (check u ∷ []) e (e' ∙ ap (λ (w : List ℕ). placed o n (check w ∷ [])) found) p fits

  -- Of two runs that differ in one byte only one is sealed: by the change itself where it is the last byte, else by the check byte.
  module _ (detects : Detects check) where
    apart :
        (u v : List ℕ) (x y : ℕ)
        → Bytes (u ++ x ∷ v)
        → Bytes (u ++ y ∷ v)
        → is_sealed_by check (u ++ x ∷ v) ≡ true
        → is_sealed_by check (u ++ y ∷ v) ≡ true
        → x ≡ y
    apart u [] x y bx by ex ey =
        eqb-true x (check u) (sym (ends u x) ∙ ex) ∙ sym (eqb-true y (check u) (sym (ends u y) ∙ ey))
    apart u (z ∷ v) x y bx by ex ey =
        let last : ℕ = get_or (z ∷ v) (length (z ∷ v) - 1) 0 in
        let mid : List ℕ = take (length (z ∷ v) - 1) (z ∷ v) in
        let split : z ∷ v ≡ mid ++ last ∷ [] = unsnoc (z ∷ v) (omega arith) in
        let cut : (w : ℕ) → u ++ w ∷ z ∷ v ≡ (u ++ w ∷ mid) ++ last ∷ [] =
        (λ w. ap (λ (t : List ℕ). u ++ w ∷ t) split ∙ sym (append_assoc u (w ∷ mid) (last ∷ []))) in
        let told : (w : ℕ) → is_sealed_by check (u ++ w ∷ z ∷ v) ≡ true → last ≡ check (u ++ w ∷ mid) =
        (λ w e. eqb-true last (check (u ++ w ∷ mid)) (sym (ends (u ++ w ∷ mid) last) ∙ ap (is_sealed_by check) (sym (cut w)) ∙ e)) in
        let front : (w : ℕ) → Bytes (u ++ w ∷ z ∷ v) → Bytes (u ++ w ∷ mid) =
        (λ w b. bytes_front (u ++ w ∷ mid) (last ∷ []) (subst Bytes (cut w) b)) in
        detects u mid x y (front x bx) (front y by) (sym (told x ex) ∙ told y ey)

    pub one_changed :
        (s t : List ℕ) → Bytes s → Bytes t → OneChanged s t → is_sealed_by check s ≡ true → is_sealed_by check t ≡ false
    one_changed s t bs bt o e =
        cases (is_sealed_by check t)
        (λ f. absurd (o.differs (apart o.before o.after o.byte o.changed (subst Bytes o.was bs) (subst Bytes o.is bt)
        (ap (is_sealed_by check) (sym o.was) ∙ e) (ap (is_sealed_by check) (sym o.is) ∙ f))))
        (λ f. f)
