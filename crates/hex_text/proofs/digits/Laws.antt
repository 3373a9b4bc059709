-- Laws of digits, and of the bytes of a text.
use mathlib.Core.Path.{◌≡◌, refl, ap, ◌∙◌}
use mathlib.Core.List.{List, [], ◌∷◌, ◌++◌}
use Prim.Native.Nat.{ℕ, zero, suc, ◌+◌, ◌*◌, ◌≤◌, ◌<◌}
use native.Mathlib.Omega.{arith}
use native.Mathlib.Numerals.{add-one}
use Rattle.std.proofs.lemmas.Bool.Decides.{nat_tests}
use lib.ListN.{length, take, drop, get_or, get_or-eq_default}
use Rattle.std.proofs.lemmas.List.{get_or-take, get_or-drop}
use Rattle.hex_text.specs.Digits.{base, byte_digits, digit_value, byte_from, bytes_from}

pub small : (c : ℕ) → digit_value c < base
unfolding digit_value
small c = grind (arith, nat_tests)

-- What lies past the end counts as no digit.
pub beyond : (text : List ℕ) (at : ℕ) → length text ≤ at → byte_from text at ≡ 0
unfolding byte_from digit_value
beyond text at h =
    let one : get_or text at 0 ≡ 0 = get_or-eq_default text 0 h in
    let two : get_or text (at + 1) 0 ≡ 0 = get_or-eq_default text 0 (omega arith) in
    rw (one, two)

-- The bytes of a text one by one.
pub length_bytes : (text : List ℕ) (n at : ℕ) → length (bytes_from text n at) ≡ n
unfolding bytes_from
length_bytes text zero at = refl
length_bytes text (suc n) at = ap suc (length_bytes text n (at + byte_digits))

pub no_bytes : (text : List ℕ) (at : ℕ) → bytes_from text 0 at ≡ []
unfolding bytes_from
no_bytes text at = refl

byte_behind : (text : List ℕ) (n at : ℕ) → bytes_from text (suc n) at ≡ bytes_from text n at ++ byte_from text (n * byte_digits + at) ∷ []
unfolding bytes_from
byte_behind text zero at = let e : at ≡ 0 * byte_digits + at = omega arith in ap (λ (k : ℕ). byte_from text k ∷ []) e
byte_behind text (suc n) at =
    let e : n * byte_digits + (at + byte_digits) ≡ suc n * byte_digits + at = omega arith in
    let more = byte_behind text n (at + byte_digits) in
    (λ i. byte_from text at ∷ more i) ∙ (λ i. (byte_from text at ∷ bytes_from text n (at + byte_digits)) ++ byte_from text (e i) ∷ [])

pub one_byte_more : (text : List ℕ) (n at : ℕ) → bytes_from text (n + 1) at ≡ bytes_from text n at ++ byte_from text (n * byte_digits + at) ∷ []
one_byte_more text n at = rw add-one (byte_behind text n at)

pub ruleset byte_by_byte = (length_bytes, no_bytes, one_byte_more)

-- The first of them, and as many of a longer text.
pub first_bytes : (text : List ℕ) (n m at : ℕ) → n ≤ m → take n (bytes_from text m at) ≡ bytes_from text n at
unfolding bytes_from
first_bytes text zero m at h = refl
first_bytes text (suc n) zero at h = absurd (omega arith)
first_bytes text (suc n) (suc m) at h = ap (λ (l : List ℕ). byte_from text at ∷ l) (first_bytes text n m (at + byte_digits) (omega arith))

pub bytes_before : (text : List ℕ) (n at m : ℕ) → at + n * byte_digits ≤ m → bytes_from (take m text) n at ≡ bytes_from text n at
unfolding bytes_from byte_from
bytes_before text zero at m h = refl
bytes_before text (suc n) at m h =
    let one : get_or (take m text) at 0 ≡ get_or text at 0 = get_or-take m text at 0 (omega arith) in
    let two : get_or (take m text) (at + 1) 0 ≡ get_or text (at + 1) 0 = get_or-take m text (at + 1) 0 (omega arith) in
    let more = bytes_before text n (at + byte_digits) m (omega arith) in
    (λ i. (digit_value (one i) * base + digit_value (two i)) ∷ more i)

-- As they stand behind the start of a text.
pub bytes_behind : (text : List ℕ) (k n at : ℕ) → bytes_from (drop k text) n at ≡ bytes_from text n (k + at)
unfolding bytes_from byte_from
bytes_behind text k zero at = refl
bytes_behind text k (suc n) at =
    let one : get_or (drop k text) at 0 ≡ get_or text (k + at) 0 = get_or-drop k text at 0 in
    let two : get_or (drop k text) (at + 1) 0 ≡ get_or text (k + at + 1) 0 =
    get_or-drop k text (at + 1) 0 ∙ ap (λ (j : ℕ). get_or text j 0) (omega arith)
    in
    let more = bytes_behind text k n (at + byte_digits) ∙ ap (bytes_from text n) (omega arith) in
    (λ i. (digit_value (one i) * base + digit_value (two i)) ∷ more i)
