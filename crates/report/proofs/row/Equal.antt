-- Laws of rows that are equal byte for byte: their lines have equal fractions.
use mathlib.Core.Path.{◌≡◌, refl, sym, ap, ◌∙◌}
use mathlib.Core.List.{List, ◌∷◌, ◌++◌}
use Prim.Native.Nat.{ℕ, zero, suc, ◌+◌, ◌*◌, ◌/◌, ◌%◌, ◌^◌, ◌<◌}
use native.Mathlib.Nat.{mod-eq_of_lt, pow-suc, mul_comm, one-le-pow}
use native.Mathlib.Omega.{arith}
use lib.Arith.{mod-mul}
use lib.ListN.{length, take, drop, get_or}
use lib.Seq.{take_at, drop_at}
use lib.IntN.{ℤ, pos, negsuc}
use lib.Ieee.{Float}
use mir.Syntax.{w64}
use mir.Val.{to_z}
use Rattle.report.specs.declared.line.Line.{Line}
use Rattle.report.specs.declared.line.Line.TheVariants.{Number, State, Bits, Text, Digits, Invalid, Short, Unknown, Left, Answered}
use Rattle.report.specs.Scaling.{quotient}
use Rattle.report.specs.Fraction.{IsFraction}
use Rattle.report.specs.Inner.{HoldsFraction}
use Rattle.report.specs.Rows.{whole_bytes, divisor_bytes, big_endian, twos_complement, number_body, row}
use Rattle.report.proofs.row.Laws.{whole_reread, bits_told, double_part, front_parts, double_size, front_size}

-- A list cut after as many elements on both sides.
cut_same : (a c : List ℕ) {b d : List ℕ} → length a ≡ length c → a ++ b ≡ c ++ d → (a ≡ c) × (b ≡ d)
cut_same a c {b} {d} e same = (
  sym (take_at a b (length c) e) ∙ ap (take (length c)) same ∙ take_at c d (length c) refl,
  sym (drop_at a b (length c) e) ∙ ap (drop (length c)) same ∙ drop_at c d (length c) refl,
)

-- Equal bytes are those of one number, as far as they go.
bytes_split : (n x : ℕ) → x % 256 ^ suc n ≡ (x / 256 ^ n % 256) * 256 ^ n + x % 256 ^ n
bytes_split n x =
    ap (λ (m : ℕ). x % m) (pow-suc 256 n ∙ mul_comm (256 ^ n) 256) ∙ mod-mul x {m = 256} {c = 256 ^ n} (omega arith) (one-le-pow n 256 (omega arith))

bytes_same : (n x y : ℕ) → big_endian n x ≡ big_endian n y → x % 256 ^ n ≡ y % 256 ^ n
unfolding big_endian
bytes_same zero x y e = omega arith
bytes_same (suc n) x y e =
    let first : x / 256 ^ n % 256 ≡ y / 256 ^ n % 256 = ap (λ (s : List ℕ). get_or s 0 0) e in
    let rest : big_endian n x ≡ big_endian n y = ap (drop 1) e in
    bytes_split n x ∙ (λ i. first i * 256 ^ n + bytes_same n x y rest i) ∙ sym (bytes_split n y)

number_same : (n x y : ℕ) → x < 256 ^ n → y < 256 ^ n → big_endian n x ≡ big_endian n y → x ≡ y
number_same n x y h k e = sym (mod-eq_of_lt h) ∙ bytes_same n x y e ∙ mod-eq_of_lt k

-- The 64 bits of a fraction's whole number are a number of eight bytes, and tell it.
bits_small : {x : Float} {n : ℤ} {d : ℕ} → IsFraction x n d → twos_complement n < 256 ^ whole_bytes
bits_small {n = pos k} f = omega (arith, f.size)
bits_small {n = negsuc k} f = omega arith

whole_told : {x : Float} {n : ℤ} {d : ℕ} → IsFraction x n d → n ≡ to_z w64 (twos_complement n)
whole_told {n = n} f = sym (whole_reread f) ∙ ap (to_z w64) (bits_told n)

-- Equal rows of Numbers are those of one whole number and one divisor, and so of one double.
numbers_same :
    (x y : Float) (n m : ℤ) (d e : ℕ)
    → IsFraction x n d
    → IsFraction y m e
    → row (Number x n d) ≡ row (Number y m e)
    → Number x n d ≡ Number y m e
unfolding row
numbers_same x y n m d e f g same =
    let bodies : number_body x n d ≡ number_body y m e = ap (drop 1) same in
    let outer = cut_same (front_parts x n) (front_parts y m) (front_size x n ∙ sym (front_size y m)) bodies in
    let inner = cut_same (double_part x) (double_part y) (double_size x ∙ sym (double_size y)) outer.0 in
    let divisor : d ≡ e = number_same divisor_bytes d e (omega (arith, f.most)) (omega (arith, g.most)) outer.1 in
    let bits : twos_complement n ≡ twos_complement m = number_same whole_bytes _ _ (bits_small f) (bits_small g) inner.1 in
    let whole : n ≡ m = whole_told f ∙ ap (to_z w64) bits ∙ sym (whole_told g) in
    let value : x ≡ y = f.divided ∙ (λ i. quotient (whole i) (divisor i)) ∙ sym g.divided in
    λ i. Number (value i) (whole i) (divisor i)

-- Only a Number's row is of kind 1.
kind_is : (k : ℕ) (b c : List ℕ) → k ∷ b ≡ 1 ∷ c → k ≡ 1
kind_is k b c e = ap (λ (s : List ℕ). get_or s 0 0) e

-- A line whose row is that of a Number is that Number.
pub line_same :
    (l : Line) (x : Float) (n : ℤ) (d : ℕ) → HoldsFraction l → IsFraction x n d → row l ≡ row (Number x n d) → l ≡ Number x n d
unfolding row
line_same (Number y m e) x n d f g same = numbers_same y x m n e d f g same
line_same (State k) x n d f g same = absurd (omega (arith, kind_is _ _ _ same))
line_same (Bits k) x n d f g same = absurd (omega (arith, kind_is _ _ _ same))
line_same (Text k) x n d f g same = absurd (omega (arith, kind_is _ _ _ same))
line_same (Digits k) x n d f g same = absurd (omega (arith, kind_is _ _ _ same))
line_same (Invalid k) x n d f g same = absurd (omega (arith, kind_is _ _ _ same))
line_same Short x n d f g same = absurd (omega (arith, kind_is _ _ _ same))
line_same (Unknown k) x n d f g same = absurd (omega (arith, kind_is _ _ _ same))
line_same (Left k) x n d f g same = absurd (omega (arith, kind_is _ _ _ same))
line_same (Answered k) x n d f g same = absurd (omega (arith, kind_is _ _ _ same))
