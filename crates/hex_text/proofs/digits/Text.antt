-- The text of bytes, character by character.
use mathlib.Core.Path.{◌≡◌, refl, ap, ◌∙◌}
use mathlib.Core.List.{List, [], ◌∷◌}
use Prim.Native.Nat.{ℕ, zero, suc, ◌+◌, ◌*◌, ◌/◌, ◌<◌}
use native.Mathlib.Omega.{arith}
use lib.ListN.{length, get_or, take}
use Rattle.std.proofs.lemmas.Grind.{common_steps}
use Rattle.hex_text.specs.Digits.{last_digit, text_of, text_length, text_over}

pub length_text : (bytes : List ℕ) → length (text_of bytes) ≡ 2 * length bytes
unfolding text_of
length_text [] = refl
length_text (b ∷ bs) = omega (arith, length_text bs)

pub high_digit : (bytes : List ℕ) (k : ℕ) → k < length bytes → get_or (text_of bytes) (2 * k) 0 ≡ last_digit (get_or bytes k 0 / 16)
unfolding text_of
high_digit [] k h = absurd (omega arith)
high_digit (b ∷ bs) zero h = refl
high_digit (b ∷ bs) (suc k) h =
    let e : 2 * suc k ≡ suc (suc (2 * k)) = omega arith in
    ap (λ (i : ℕ). get_or (text_of (b ∷ bs)) i 0) e ∙ high_digit bs k (omega arith)

pub low_digit : (bytes : List ℕ) (k : ℕ) → k < length bytes → get_or (text_of bytes) (2 * k + 1) 0 ≡ last_digit (get_or bytes k 0)
unfolding text_of
low_digit [] k h = absurd (omega arith)
low_digit (b ∷ bs) zero h = refl
low_digit (b ∷ bs) (suc k) h =
    let e : 2 * suc k + 1 ≡ suc (suc (2 * k + 1)) = omega arith in
    ap (λ (i : ℕ). get_or (text_of (b ∷ bs)) i 0) e ∙ low_digit bs k (omega arith)

-- What was written of it.
pub written :
    (bytes out text : List ℕ) (n : ℕ)
    → text ≡ text_over bytes out
    → n ≡ text_length bytes (length out)
    → take n text ≡ take (length out) (text_of bytes)
unfolding text_over
written bytes out text n lent answer = rw (lent, answer) (grind (arith, common_steps))
