-- The double of a fraction is finite: neither a NaN nor an infinity.
use mathlib.Core.Path.{◌≡◌, refl, sym, ap, ◌∙◌, subst}
use mathlib.Core.Bool.{Bool, true, false, cond, true≢false}
use Prim.Native.Nat.{ℕ, zero, suc, ◌+◌, ◌*◌, ◌^◌, ◌≤◌, ◌<◌}
use native.Mathlib.Nat.{le_refl, mul-le-mul, mul-pos, mul_assoc, mul_comm, mul_left_comm}
use native.Mathlib.Omega.{arith}
use borrow.Author.Tests.{ne_eqb}
use lib.Dec.{T, ltb, ltb→lt}
use lib.Ieee.{Float, nan, inf, fin, Format, binary64, prec, emax, low, up, down, odd, units, round, le, of_int, div, is_nan}
use lib.Ieee.Back.{round_whole}
use lib.Ieee.Exact.{HasValue}
use lib.Ieee.Fits.{round_is, up_pos, down_pos}
use lib.Ieee.Order.{round_mono}
use lib.Ieee.Positive.{positive_of_value}
use lib.Ieee.Scale.{round_same, finite}
use lib.IntN.{ℤ, pos, negsuc, nat_abs}
use Rattle.report.specs.Scaling.{quotient}
use Rattle.report.specs.Fraction.{most_above, most_divisor, IsFraction}

-- What is rounded is finite where, without its sign, it is at most what has a value.
odd_finite : (d : ℕ) (s : Bool) (q k l : ℕ) → finite (odd d s q k l) ≡ true
unfolding odd
odd_finite d s zero k l = refl
odd_finite d s (suc q) k l = refl

units_finite : (f : Format) (s : Bool) (q k a : ℕ) (y : Float) → HasValue y false a 1 → T (le (units f false q k) y) → finite (units f s q k) ≡ true
unfolding units le
units_finite f s q k a nan v h = absurd v
units_finite f s q k a (inf t) v h = absurd v
units_finite f s q k a (fin t n e) v h = go (ltb (q * 2 ^ k) (2 ^ (low f + suc (emax f)))) h
  where
    held : Bool → Float
    held t = odd (suc (prec f)) t q k (low f)

    go : (b : Bool) → T (le (cond b (held false) (inf false)) (fin t n e)) → finite (cond b (held s) (inf s)) ≡ true
    go true h = odd_finite (suc (prec f)) s q k (low f)
    go false h = absurd h

-- A fraction is at most the whole number above its line, and rounding keeps the order.
round_finite : (f : Format) (s : Bool) (a d : ℕ) → a ≤ 2 ^ prec f → 1 ≤ d → finite (round f s a d) ≡ true
round_finite f s a d h l =
    let whole = round f false a 1 in
    let most : T (le (round f false a d) whole) = round_mono f a d a 1 l (omega arith) (mul-le-mul (le_refl a) l) in
    ap finite (round_is f s a d)
    ∙ units_finite f s _ _ a whole (round_whole f false a h) (subst (λ (x : Float). T (le x whole)) (round_is f false a d) most)

-- The quotient of two doubles that are whole numbers, the second above zero, is their fraction rounded.
div_finite :
    (f : Format) (x y : Float) (s : Bool) (a d : ℕ)
    → HasValue x s a 1
    → HasValue y false d 1
    → a ≤ 2 ^ prec f
    → 1 ≤ d
    → finite (div f x y) ≡ true
unfolding div
div_finite f nan y s a d v w h l = absurd v
div_finite f (inf t) y s a d v w h l = absurd v
div_finite f (fin t m e) nan s a d v w h l = absurd w
div_finite f (fin t m e) (inf u) s a d v w h l = absurd w
div_finite f (fin t m e) (fin true n k) s a d v w h l = absurd (true≢false w.0)
div_finite f (fin t m e) (fin false n k) s a d v w h l =
    let n_pos : 0 < n = ltb→lt 0 n (positive_of_value (fin false n k) d 1 w l) in
    let x-is : m * up e ≡ a * down e = omega (arith, v.1) in
    let y-is : n * up k ≡ d * down k = omega (arith, w.1) in
    let cross : m * up e * down k * d ≡ a * (n * up k * down e) = rw (x-is, y-is) (simp (mul_assoc, mul_comm, mul_left_comm)) in
    rw (ne_eqb n 0 (λ z. omega arith))
    (ap finite (round_same f _ _ _ a d (mul-pos (mul-pos n_pos (up_pos k)) (down_pos e)) l cross) ∙ round_finite f _ a d h l)

-- The double of a fraction is finite, and so a number.
whole_finite :
    (s : Bool) (a d : ℕ)
    → a ≤ most_above
    → 1 ≤ d
    → d ≤ most_divisor
    → finite (div binary64 (round binary64 s a 1) (round binary64 false d 1)) ≡ true
whole_finite s a d h l m =
    let small : a ≤ 2 ^ 53 = omega arith in
    div_finite binary64 _ _ s a d (round_whole binary64 s a small) (round_whole binary64 false d (omega arith)) small l

quotient_finite : (n : ℤ) (d : ℕ) → nat_abs n ≤ most_above → 1 ≤ d → d ≤ most_divisor → finite (quotient n d) ≡ true
unfolding of_int quotient
quotient_finite (pos n) d = whole_finite false n d
quotient_finite (negsuc n) d = whole_finite true (suc n) d

pub fraction_finite : {x : Float} {n : ℤ} {d : ℕ} → IsFraction x n d → finite x ≡ true
fraction_finite {x} {n} {d} f = ap finite f.divided ∙ quotient_finite n d f.size f.least f.most

pub fraction_number : {x : Float} {n : ℤ} {d : ℕ} → IsFraction x n d → is_nan x ≡ false
unfolding is_nan
fraction_number {x} f = of x (fraction_finite f)
  where
    of : (x : Float) → finite x ≡ true → is_nan x ≡ false
    of nan h = absurd (true≢false (sym h))
    of (inf s) h = refl
    of (fin s m e) h = refl
