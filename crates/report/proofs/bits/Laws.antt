-- Laws of the bits of an item.
use mathlib.Core.Path.{◌≡◌, refl, sym, ap, ◌∙◌}
use Rattle.frame.proofs.bytes.Laws.{below}
use mathlib.Core.Bool.{Bool}
use lib.Dec.{eqb, eqb→eq}
use mathlib.Core.List.{List, ◌++◌}
use Prim.Native.Nat.{ℕ, zero, suc, ◌+◌, ◌-◌, ◌*◌, ◌/◌, ◌%◌, ◌^◌, ◌≤◌, ◌<◌}
use native.Mathlib.Nat.{lt_of_lt_of_le, mul_assoc, pow-suc}
use native.Mathlib.Numerals.{add-one}
use Rattle.std.proofs.Common.{add-zero, add-suc}
use Rattle.std.proofs.lemmas.Nat.{div-mul-add, mod-mul-add}
use native.Mathlib.Omega.{arith}
use lib.ListN.{length, get_or}
use lib.Pow.{pow_mono}
use lib.Seq.{get_or-append-add}
use Rattle.report.specs.Bits.{bit_at, cut}

-- A bit is 0 or 1.
pub bit_lt : (s : List ℕ) (i : ℕ) → bit_at s i < 2
unfolding bit_at
bit_lt s i = omega arith

-- So many bits make a number below that power of 2.
pub cut_lt : (s : List ℕ) (at w : ℕ) → cut s at w < 2 ^ w
unfolding cut
cut_lt s at zero = omega arith
cut_lt s at (suc w) = omega (arith, cut_lt s at w, bit_lt s (at + w))

-- One bit more, as the loop takes it.
pub cut_next : (s : List ℕ) (at w : ℕ) → cut s at w * 2 + bit_at s (at + w) ≡ cut s at (w + 1)
unfolding cut
cut_next s at w = rw add-one

pub cut_below : (s : List ℕ) (at w k : ℕ) → w ≤ k → cut s at w < 2 ^ k
cut_below s at w k h = lt_of_lt_of_le (cut_lt s at w) (pow_mono h)

-- Behind other bytes, a bit and a number are those of the bytes themselves.
bit_behind : (xs ys : List ℕ) (i : ℕ) → bit_at (xs ++ ys) (8 * length xs + i) ≡ bit_at ys i
unfolding bit_at
bit_behind xs ys i =
    let place : (8 * length xs + i) / 8 ≡ length xs + i / 8 = omega arith in
    let bit : (8 * length xs + i) % 8 ≡ i % 8 = omega arith in
    let byte : get_or (xs ++ ys) ((8 * length xs + i) / 8) 0 ≡ get_or ys (i / 8) 0 =
    ap (λ (k : ℕ). get_or (xs ++ ys) k 0) place ∙ get_or-append-add xs ys (i / 8) 0 in
    λ j. byte j / 2 ^ (7 - bit j) % 2

pub cut_behind : (xs ys : List ℕ) (at w : ℕ) → cut (xs ++ ys) (8 * length xs + at) w ≡ cut ys at w
unfolding cut
cut_behind xs ys at zero = refl
cut_behind xs ys at (suc w) =
    let bit : bit_at (xs ++ ys) (8 * length xs + at + w) ≡ bit_at ys (at + w) =
    ap (bit_at (xs ++ ys)) (omega arith) ∙ bit_behind xs ys (at + w) in
    λ j. cut_behind xs ys at w j * 2 + bit j

-- A bit of the byte that starts at a place.
bit_of_lem : (s : List ℕ) (i k : ℕ) → i % 8 ≡ 0 → k < 8 → bit_at s (i + k) ≡ get_or s (i / 8) 0 / 2 ^ (7 - k) % 2
unfolding bit_at
bit_of_lem s i k h l =
    let q : (i + k) / 8 ≡ i / 8 = omega arith in
    let m : (i + k) % 8 ≡ k = omega arith in
    rw (q, m) refl

-- A number with the first bits of a byte behind it.
abbrev behind : ℕ → ℕ → ℕ → ℕ
behind x b zero = x
behind x b (suc k) = behind x b k * 2 + b / 2 ^ (7 - k) % 2

bits_more : (s : List ℕ) (at w k : ℕ) → (at + w) % 8 ≡ 0 → k ≤ 8 → cut s at (w + k) ≡ behind (cut s at w) (get_or s ((at + w) / 8) 0) k
bits_more s at w zero h l = ap (cut s at) (omega arith)
bits_more s at w (suc k) h l =
    let there : bit_at s (at + (w + k)) ≡ get_or s ((at + w) / 8) 0 / 2 ^ (7 - k) % 2 =
    ap (bit_at s) (omega arith) ∙ bit_of_lem s (at + w) k h (omega arith) in
    ap (cut s at) (omega arith) ∙ sym (cut_next s at (w + k)) ∙ (λ i. bits_more s at w k h (omega arith) i * 2 + there i)

-- All eight bits of a byte make the byte.
abbrev made : ℕ → Bool
made b = eqb (behind 0 b 8) b

-- Eight bits that start where a byte starts are the byte, as the loop takes it.
pub cut_byte :
    (s : List ℕ) (at w : ℕ)
    → (at + w) % 8 ≡ 0
    → get_or s ((at + w) / 8) 0 < 256
    → cut s at w * 256 + get_or s ((at + w) / 8) 0 ≡ cut s at (w + 8)
cut_byte s at w h l =
    let b = get_or s ((at + w) / 8) 0 in
    omega (arith, bits_more s at w 8 h (omega arith), eqb→eq (behind 0 b 8) b (below made 256 tt b l))

-- One byte more, as the loop takes it: the bits are those from the first byte on.
pub cut_next_byte :
    (s : List ℕ) (f i : ℕ) {x b : ℕ}
    → f ≤ i
    → x ≡ cut s (8 * f) (8 * (i - f))
    → b ≡ get_or s i 0
    → b < 256
    → x * 256 + b ≡ cut s (8 * f) (8 * (i + 1 - f))
cut_next_byte s f i {x} {b} h e g l =
    let w : ℕ = 8 * (i - f) in
    let there : get_or s ((8 * f + w) / 8) 0 ≡ b = ap (λ (k : ℕ). get_or s k 0) (omega arith) ∙ sym g in
    let more : cut s (8 * f) (w + 8) ≡ cut s (8 * f) (8 * (i + 1 - f)) = ap (cut s (8 * f)) (omega arith) in
    omega (arith, e, there, cut_byte s (8 * f) w (omega arith) (omega (arith, there)), more)

-- A number of bits in two parts: those at its front are above those behind them.
pub cut_parts : (s : List ℕ) (at a b : ℕ) → cut s at (a + b) ≡ cut s at a * 2 ^ b + cut s (at + a) b
unfolding cut
cut_parts s at a zero = ap (cut s at) (add-zero a) ∙ omega arith
cut_parts s at a (suc b) =
    let there : bit_at s (at + (a + b)) ≡ bit_at s (at + a + b) = ap (bit_at s) (omega arith) in
    let power : cut s at a * 2 ^ suc b ≡ cut s at a * 2 ^ b * 2 = ap (λ (m : ℕ). cut s at a * m) (pow-suc 2 b) ∙ sym (mul_assoc (cut s at a) (2 ^ b) 2) in
    ap (cut s at) (add-suc a b) ∙ omega (arith, cut_parts s at a b, there, power)

-- What is left without the bits behind and before it.
pub cut_middle :
    (s : List ℕ) (at a w b : ℕ) {n x : ℕ}
    → n ≡ a + w + b
    → x ≡ cut s at n
    → x / 2 ^ b % 2 ^ w ≡ cut s (at + a) w
cut_middle s at a w b e f =
    let whole = f ∙ ap (cut s at) e ∙ cut_parts s at (a + w) b in
    let front = ap (λ (y : ℕ). y / 2 ^ b) whole ∙ div-mul-add (cut s at (a + w)) (2 ^ b) _ (cut_lt s (at + (a + w)) b) in
    ap (λ (y : ℕ). y % 2 ^ w) (front ∙ cut_parts s at a w) ∙ mod-mul-add (cut s at a) (2 ^ w) _ (cut_lt s (at + a) w)

pub width_size : (w : ℕ) → w ≤ 32 → 1 * 2 ^ w % 2 ^ 64 ≡ 2 ^ w
width_size w h = let p : 2 ^ w ≤ 2 ^ 32 = pow_mono h in omega arith

pub ruleset cuts = (cut_next_byte, cut_middle, width_size)
