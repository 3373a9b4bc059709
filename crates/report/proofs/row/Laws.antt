-- Laws of a row: the bytes of its numbers, its parts placed one behind the other, and how long it is.
use mathlib.Core.Path.{◌≡◌, refl, sym, ap, ◌∙◌}
use mathlib.Core.List.{List, [], ◌∷◌, ◌++◌}
use Prim.Native.Nat.{ℕ, zero, suc, ◌+◌, ◌-◌, ◌/◌, ◌%◌, ◌^◌, ◌≤◌, ◌<◌}
use native.Mathlib.Omega.{arith}
use native.Mathlib.Nat.{div-one}
use borrow.Rule.Slice.PartMut.{put_mid}
use lib.ListN.{length, take, drop, set, length-append, length-take, length-drop}
use lib.IntN.{ℤ, pos, negsuc, nat_abs, ◌-ℤ◌}
use lib.Signed.{mag, le_z}
use mir.Syntax.{w64}
use mir.Val.{to_z, of_z}
use mir.ValLaws.{to_z-of_z}
use lib.Ieee.{Float, binary64, to_bits}
use Rattle.std.specs.Int.{bytes_high_first}
use Rattle.std.proofs.lemmas.Slice.{put_mid-paste}
use mathlib.Core.Bool.{false, true≢false}
use borrow.Author.Tests.{le-leb, le-ltb}
use Rattle.frame.specs.Bytes.{placed}
use Rattle.frame.proofs.bytes.Placed.{pasted, stored, joined, tail_placed}
use Rattle.report.specs.declared.line.Line.{Line}
use Rattle.report.specs.declared.line.Line.TheVariants.{Number, State, Bits, Text, Digits, Invalid, Short, Unknown, Left, Answered}
use Rattle.report.specs.Rows.{double_bytes, whole_bytes, divisor_bytes, code_bytes, number_row_size, big_endian, twos_complement, number_body, row}
use Rattle.report.specs.Fraction.{IsFraction}

pub length_big_endian : (n x : ℕ) → length (big_endian n x) ≡ n
unfolding big_endian
length_big_endian zero x = refl
length_big_endian (suc n) x = ap suc (length_big_endian n x)

-- The library's bytes of a number, the most significant first, are those of the definition.
pub bytes_are : (n x : ℕ) → bytes_high_first n x ≡ big_endian n x
unfolding big_endian
bytes_are zero x = refl
bytes_are (suc zero) x = ap (λ (y : ℕ). y % 256 ∷ []) (sym (div-one x))
bytes_are (suc (suc n)) x = ap (λ (s : List ℕ). x / 256 ^ suc n % 256 ∷ s) (bytes_are (suc n) x)

-- A run copied into a part of memory is placed there.
pub copied : (out : List ℕ) (at k : ℕ) (u : List ℕ) {o : List ℕ} → o ≡ u → length u ≡ k → put_mid at k out o ≡ placed out at u
copied out at k u {o} e h = put_mid-paste at k out o u (length u) e h refl ∙ pasted out at u

-- Memory from a place on, lent to a call that places a run at its start.
pub lent_length : (out : List ℕ) (at : ℕ) → length (take (length out - at) (drop at out)) ≡ length out - at
lent_length out at = simp (length-take, length-drop) (omega arith)

pub lent_placed :
    (out : List ℕ) (at : ℕ) (u : List ℕ) {o : List ℕ}
    → o ≡ placed (take (length out - at) (drop at out)) 0 u
    → at + length u ≤ length out
    → put_mid at (length out - at) out o ≡ placed out at u
lent_placed out at u e fits = tail_placed out at u e

-- A body copied right behind its kind.
pub kind_behind :
    (out : List ℕ) (kind n : ℕ) (body : List ℕ)
    → n ≡ length body
    → 0 < length out
    → put_mid 1 n (set out 0 kind) body ≡ placed out 0 (kind ∷ body)
kind_behind out kind n body e fits =
    joined out 0 (kind ∷ []) body (stored out 0 kind fits) (copied (set out 0 kind) 1 n body refl (sym e)) refl (omega arith)

-- The 64 bits of a number below zero are told from the number that mirrors it, -1 - n.
pub mirrored : (z : ℤ) → le_z (pos 0) z ≡ false → (negsuc 0 -ℤ z ≡ pos (mag z)) × (twos_complement z ≡ 2 ^ 64 - 1 - mag z)
mirrored (pos n) e = absurd (true≢false (sym (le-leb 0 n (omega arith)) ∙ e))
mirrored (negsuc n) e = (rw (le-ltb (suc n) 1 (omega arith)) (ap pos (omega arith)), omega arith)

-- The whole number of a fraction is read back from its 64 bits.
mag_abs : (z : ℤ) → mag z ≤ nat_abs z
mag_abs (pos n) = omega arith
mag_abs (negsuc n) = omega arith

pub whole_reread : {x : Float} {n : ℤ} {d : ℕ} → IsFraction x n d → to_z w64 (of_z w64 n) ≡ n
whole_reread {n = n} f = to_z-of_z w64 n (record { sfits = omega (arith, mag_abs n, f.size) })

-- The 64 bits of a signed number.
pub bits_told : (z : ℤ) → of_z w64 z ≡ twos_complement z
bits_told (pos n) = refl
bits_told (negsuc n) = refl

pub whole_bits : {x : Float} {n : ℤ} {d : ℕ} → IsFraction x n d → of_z w64 (to_z w64 (of_z w64 n)) ≡ twos_complement n
whole_bits {n = n} f = ap (of_z w64) (whole_reread f) ∙ bits_told n

-- The first part of a Number's body, and the first two.
abbrev pub double_part : Float → List ℕ
double_part x = big_endian double_bytes (to_bits binary64 x)

abbrev pub front_parts : Float → ℤ → List ℕ
front_parts x n = double_part x ++ big_endian whole_bytes (twos_complement n)

pub double_size : (x : Float) → length (double_part x) ≡ double_bytes
double_size x = length_big_endian double_bytes (to_bits binary64 x)

pub front_size : (x : Float) (n : ℤ) → length (front_parts x n) ≡ double_bytes + whole_bytes
front_size x n =
    length-append (double_part x) (big_endian whole_bytes (twos_complement n))
    ∙ (λ i. double_size x i + length_big_endian whole_bytes (twos_complement n) i)

length_number : (x : Float) (n : ℤ) (d : ℕ) → length (number_body x n d) ≡ double_bytes + whole_bytes + divisor_bytes
length_number x n d =
    length-append (front_parts x n) (big_endian divisor_bytes d) ∙ (λ i. front_size x n i + length_big_endian divisor_bytes d i)

-- The parts of a Number placed one behind the other make its row.
pub parts_behind :
    (out : List ℕ) (at : ℕ) (x : Float) (n : ℤ) (d : ℕ) {p q o : List ℕ} {whole bits : ℕ}
    → (p ≡ placed out at (1 ∷ double_part x)) × (whole ≡ at + 1 + double_bytes)
    → bits ≡ twos_complement n
    → q ≡ placed p whole (big_endian whole_bytes bits)
    → o ≡ placed q (whole + whole_bytes) (big_endian divisor_bytes d)
    → at + number_row_size ≤ length out
    → o ≡ placed out at (row (Number x n d))
unfolding row
parts_behind out at x n d {p = p} {q = q} {whole = whole} first e second third fits =
    let b : List ℕ = big_endian whole_bytes (twos_complement n) in
    let behind : q ≡ placed p whole b = second ∙ ap (λ (w : ℕ). placed p whole (big_endian whole_bytes w)) e in
    let front : q ≡ placed out at (1 ∷ front_parts x n) =
    joined out at (1 ∷ double_part x) b {n = whole} first.0 behind (omega (arith, double_size x, first.1)) (omega (arith, double_size x)) in
    joined out at (1 ∷ front_parts x n) (big_endian divisor_bytes d) {n = whole + whole_bytes} front third
    (omega (arith, front_size x n, first.1)) (omega (arith, front_size x n))

pub row_some : (l : Line) → 1 ≤ length (row l)
unfolding row
row_some (Number x n d) = omega arith
row_some (State n) = omega arith
row_some (Bits n) = omega arith
row_some (Text n) = omega arith
row_some (Digits n) = omega arith
row_some (Invalid n) = omega arith
row_some Short = omega arith
row_some (Unknown n) = omega arith
row_some (Left n) = omega arith
row_some (Answered n) = omega arith

pub row_most : (l : Line) → length (row l) ≤ number_row_size
unfolding row
row_most (Number x n d) = omega (arith, length_number x n d)
row_most (State n) = omega (arith, length_big_endian code_bytes n)
row_most (Bits n) = omega (arith, length_big_endian code_bytes n)
row_most (Text n) = omega (arith, length_big_endian code_bytes n)
row_most (Digits n) = omega (arith, length_big_endian code_bytes n)
row_most (Invalid n) = omega (arith, length_big_endian code_bytes n)
row_most Short = omega arith
row_most (Unknown n) = omega arith
row_most (Left n) = omega arith
row_most (Answered n) = omega arith
