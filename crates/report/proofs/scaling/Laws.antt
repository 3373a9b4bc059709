-- Laws of patterns, of the number above the line, of limits and of digits.
use mathlib.Core.Path.{◌≡◌, refl, sym, ap, ◌∙◌, subst}
use mathlib.Core.Logic.{◌⊎◌, inl, inr}
use mathlib.Core.Bool.{Bool, true, false, cond, ◌&&◌}
use Prim.Native.Nat.{ℕ, zero, suc, ◌+◌, ◌-◌, ◌*◌, ◌/◌, ◌%◌, ◌^◌, ◌≤◌, ◌<◌}
use native.Mathlib.Nat.{le_of_lt, le_trans, mul-le-mul}
use native.Mathlib.Omega.{arith}
use borrow.Author.Tests.{lt-ltb, le-ltb, le-leb, lt-leb, ltb-true, ltb-false}
use lib.Dec.{T, eqb, leb, ltb, le→leb, lt→ltb}
use lib.Ieee.{binary64, in_float}
use lib.IntN.{ℤ, pos, negsuc, neg_ℤ, sub_ℕ, ◌+ℤ◌, ◌*ℤ◌}
use lib.Pow.{pow_mono}
use lib.Signed.{mag, nat_abs-le}
use mir.Syntax.{w32, w64}
use mir.Val.{SFits, to_z, of_z}
use mir.ValLaws.{to_z_pos, to_z-of_z}
use Rattle.catalogue.specs.declared.rows.SlotRow.{SlotRow}
use Rattle.catalogue.proofs.rows.Laws.{SlotRanges, SlotSizes}
use Rattle.catalogue.specs.Rows.{snm, sed, bmp, asc, bcd, bmm}
use Rattle.frame.proofs.bytes.Laws.{cases}
use Rattle.report.specs.declared.line.Line.TheVariants.{State, Bits, Text, Digits, Invalid, Unknown}
use Rattle.report.specs.Line.{not_shown_reason, no_state_reason, too_wide_reason}
use Rattle.report.specs.Scaling.{widest_shown, signed, pattern, raw_number, above, number_line}
use Rattle.report.specs.Scaling.{within_limits, digits_pass, printable, decimal, text_line, digits_line, form_line}
use Rattle.report.specs.declared.line.Line.{Line}
use Rattle.report.specs.Fraction.{most_above}
use Rattle.report.specs.Inner.{HoldsFraction}

-- A number below 2 ^ 63, known to be another, is read back from its bits as that.
pub reread : {y z : ℤ} → y ≡ z → mag z < 2 ^ 63 → to_z w64 (of_z w64 y) ≡ z
reread {y} {z} e h = ap (λ (x : ℤ). to_z w64 (of_z w64 x)) e ∙ to_z-of_z w64 z (record { sfits = h })

pub ruleset reads = (to_z-of_z, to_z_pos)

-- The same for the result of a call, whose own range is known.
pub result_is : {y z : ℤ} → mag y < 2 ^ 63 → y ≡ z → to_z w64 (of_z w64 y) ≡ z
result_is {y} {z} h e = to_z-of_z w64 y (record { sfits = h }) ∙ e

-- Below half of the range a pattern is its own number; from there on it is that less the range.
pub signed_low : (p : ℕ) → p < 2 ^ 31 → signed p ≡ pos p
unfolding signed
signed_low p h = rw (lt-ltb p (2 ^ 31) h)

signed_neg : (p : ℕ) → 2 ^ 31 ≤ p → p < 2 ^ 32 → signed p ≡ negsuc (2 ^ 32 - suc p)
unfolding signed
signed_neg p h l =
    let e : 2 ^ 32 - p ≡ suc (2 ^ 32 - suc p) = omega arith in
    rw (le-ltb p (2 ^ 31) h) (ap (λ (n : ℕ). neg_ℤ (pos n)) e)

pub signed_is : (p : ℕ) → p < 2 ^ 32 → to_z w32 p ≡ signed p
signed_is p l =
    cases (ltb p (2 ^ 31)) (λ t. rw t (sym (signed_low p (ltb-true _ _ t)))) (λ f. rw f (sym (signed_neg p (ltb-false _ _ f) l)))

pub signed_mag : (p : ℕ) → p < 2 ^ 32 → mag (signed p) < 2 ^ 31
signed_mag p l =
    cases (ltb p (2 ^ 31)) (λ t. subst (λ (z : ℤ). mag z < 2 ^ 31) (sym (signed_low p (ltb-true _ _ t))) (ltb-true _ _ t))
    (λ f.
    let h : 2 ^ 31 ≤ p = ltb-false _ _ f in
    subst (λ (z : ℤ). mag z < 2 ^ 31) (sym (signed_neg p h l)) (omega arith))

-- The size of a width, as a shift gives it: at most the range, and twice that of one bit less.
pub record Size (w : ℕ) : Type 0 where
  pub shifted : 1 * 2 ^ w % 2 ^ 64 ≡ 2 ^ w
  pub within : 2 ^ w ≤ 2 ^ 32
  pub twice : 2 ^ w ≡ 2 ^ (w - 1) * 2

pub size_of : (w : ℕ) → 1 ≤ w → w ≤ 32 → Size w
size_of zero l h = absurd (omega arith)
size_of (suc w) l h =
    let p : 2 ^ suc w ≤ 2 ^ 32 = pow_mono h in
    let t : 2 ^ suc w ≡ 2 ^ w * 2 = omega arith in
    let e : suc w - 1 ≡ w = omega arith in
    record { shifted = omega arith; within = p; twice = rw e t }

-- A pattern is below the range, and so is the number.
pub pattern_lt : (form w raw : ℕ) → 1 ≤ w → w ≤ 32 → raw < 2 ^ w → pattern form w raw < 2 ^ 32
unfolding pattern
pattern_lt form w raw l h r =
    let s = size_of w l h in
    cases (eqb form 2 && leb (2 ^ (w - 1)) raw) (λ t. rw t (omega arith)) (λ f. rw f (omega arith))

raw_mag : (form w raw : ℕ) → 1 ≤ w → w ≤ 32 → raw < 2 ^ w → mag (raw_number form w raw) < 2 ^ 32
unfolding raw_number
raw_mag form w raw l h r =
    let s = size_of w l h in
    cases (eqb form 2) (λ t. rw t (omega (arith, signed_mag (pattern form w raw) (pattern_lt form w raw l h r))))
    (λ f. rw f (omega arith))

-- How large a product and a sum can be.
mag_neg : (n : ℕ) → mag (neg_ℤ (pos n)) ≤ n
mag_neg zero = omega arith
mag_neg (suc n) = omega arith

mag_mul : (z : ℤ) (m a b : ℕ) → mag z < a → m ≤ b → mag (z *ℤ pos m) ≤ a * b
mag_mul (pos n) m a b h l = mul-le-mul (le_of_lt h) l
mag_mul (negsuc n) m a b h l = le_trans (mag_neg (suc n * m)) (mul-le-mul h l)

mag_sub : (a b : ℕ) → mag (sub_ℕ a (suc b)) ≤ suc (a + b)
mag_sub a b = cases (ltb a (suc b)) (λ t. rw t (omega arith)) (λ f. rw f (omega arith))

mag_add : (x y : ℤ) → mag (x +ℤ y) ≤ suc (mag x + mag y)
mag_add (pos a) (pos b) = omega arith
mag_add (pos a) (negsuc b) = mag_sub a b
mag_add (negsuc a) (pos b) = omega (arith, mag_sub b a)
mag_add (negsuc a) (negsuc b) = omega arith

pub product_small : (form w raw m : ℕ) → 1 ≤ w → w ≤ 32 → raw < 2 ^ w → m < 2 ^ 16 → mag (raw_number form w raw *ℤ pos m) ≤ 2 ^ 48
product_small form w raw m l h r k = mag_mul (raw_number form w raw) m (2 ^ 32) (2 ^ 16) (raw_mag form w raw l h r) (le_of_lt k)

pub above_small :
    (slot : SlotRow) (raw : ℕ)
    → 1 ≤ slot.width
    → slot.width ≤ widest_shown
    → raw < 2 ^ slot.width
    → slot.multiplier < 2 ^ 16
    → slot.offset < 2 ^ 32
    → mag (above slot raw) < most_above
unfolding above
above_small slot raw l h r k o =
    let n : ℤ = raw_number slot.form slot.width raw *ℤ pos slot.multiplier in
    omega (arith, mag_add n (signed slot.offset), product_small slot.form slot.width raw slot.multiplier l h r k, signed_mag slot.offset o)

-- A double holds such a number exactly.
pub in_float_lem : (z : ℤ) → mag z < 2 ^ 53 → T (in_float binary64 z)
unfolding in_float
in_float_lem (pos n) h = le→leb n (2 ^ 53) (le_of_lt h)
in_float_lem (negsuc n) h = lt→ltb n (2 ^ 53) h

-- So product and sum, as the code has them, fit a signed number of 64 bits, and a double holds the sum exactly.
module _
    (slot : SlotRow) (raw : ℕ)
    (some : 1 ≤ slot.width) (shown : slot.width ≤ widest_shown) (small : raw < 2 ^ slot.width)
    (k : slot.multiplier < 2 ^ 16) (l : slot.offset < 2 ^ 32)
  where
    above_fits : SFits w64 (above slot raw)
    above_fits = record { sfits = omega (arith, above_small slot raw some shown small k l) }

    pub above_exact : T (in_float binary64 (above slot raw))
    above_exact = in_float_lem (above slot raw) (omega (arith, above_small slot raw some shown small k l))

    pub product_fits : SFits w64 (raw_number slot.form slot.width raw *ℤ pos slot.multiplier)
    product_fits = record { sfits = omega (arith, product_small slot.form slot.width raw slot.multiplier some shown small k) }

    module _
        (n o : ℤ) {p : ℕ}
        (e : n ≡ raw_number slot.form slot.width raw) (f : o ≡ signed p)
        (g : mag n < 2 ^ 63) (h : mag o < 2 ^ 63) (m : p < 2 ^ 32)
      where
        sum :
            to_z w64 (of_z w64 (to_z w64 (of_z w64 n) *ℤ to_z w64 slot.multiplier)) +ℤ to_z w64 (of_z w64 o)
            ≡ raw_number slot.form slot.width raw *ℤ pos slot.multiplier +ℤ signed p
        sum =
            let told = reread (λ i. result_is g e i *ℤ to_z_pos w64 slot.multiplier (omega arith) i) product_fits.sfits in
            λ i. told i +ℤ result_is h f i

        -- whatever number is added
        pub sum_fits : SFits w64 (to_z w64 (of_z w64 (to_z w64 (of_z w64 n) *ℤ to_z w64 slot.multiplier)) +ℤ to_z w64 (of_z w64 o))
        sum_fits =
            let x : ℤ = raw_number slot.form slot.width raw *ℤ pos slot.multiplier in
            let small-x = product_small slot.form slot.width raw slot.multiplier some shown small k in
            subst (SFits w64) (sym sum) (record { sfits = omega (arith, mag_add x (signed p), small-x, signed_mag p m) })

    pub sum_told :
        (n o : ℤ)
        → n ≡ raw_number slot.form slot.width raw
        → o ≡ signed slot.offset
        → mag n < 2 ^ 63
        → mag o < 2 ^ 63
        → to_z w64 (of_z w64 (to_z w64 (of_z w64 (to_z w64 (of_z w64 n) *ℤ to_z w64 slot.multiplier)) +ℤ to_z w64 (of_z w64 o))) ≡ above slot raw
    unfolding above
    sum_told n o e f g h = reread (sum n o e f g h l) above_fits.sfits

pub ruleset sums = (product_fits, sum_told)

pub ruleset exact = (reads, above_exact)

-- A digit and those above it: one that passes leaves those, one that does not ends the run, and with none left it has passed.
module _ (p : ℕ → Bool) (size n i x : ℕ) where
  digits_from : i < n → digits_pass p size (n - i) x ≡ (p (x % 2 ^ size) && digits_pass p size (n - (i + 1)) (x / 2 ^ size))
  unfolding digits_pass
  digits_from h =
      let e : n - i ≡ suc (n - (i + 1)) = omega arith in
      ap (λ (k : ℕ). digits_pass p size k x) e

  pub digits_next : i < n → p (x % 2 ^ size) ≡ true → digits_pass p size (n - i) x ≡ digits_pass p size (n - (i + 1)) (x / 2 ^ size)
  digits_next h e = digits_from h ∙ rw e

  pub digits_broken : i < n → p (x % 2 ^ size) ≡ false → digits_pass p size (n - i) x ≡ false
  digits_broken h e = digits_from h ∙ rw e

  pub digits_passed : n ≤ i → digits_pass p size (n - i) x ≡ true
  unfolding digits_pass
  digits_passed h =
      let e : n - i ≡ 0 = omega arith in
      ap (λ (k : ℕ). digits_pass p size k x) e

-- A digit in a range, and one out of it; the size of digits as a shift gives it.
pub in_range : (low high d : ℕ) → low ≤ d → d ≤ high → (leb low d && leb d high) ≡ true
in_range low high d h l = rw (le-leb low d h) (le-leb d high l)

pub out_of_range : (low high d : ℕ) → (d < low) ⊎ ((low ≤ d) × (high < d)) → (leb low d && leb d high) ≡ false
out_of_range low high d (inl h) = rw (lt-leb low d h)
out_of_range low high d (inr h) = rw (le-leb low d h.0) (lt-leb d high h.1)

-- No number is below a range from 0.
from_zero : (high : ℕ) → ◌≡◌ {A = ℕ → Bool} (λ (d : ℕ). leb 0 d && leb d high) (λ (d : ℕ). leb d high)
from_zero high = λ i d. le-leb 0 d (omega arith) i && leb d high

pub digit_size : (n : ℕ) → n ≤ 8 → 1 * 2 ^ n % 2 ^ 32 ≡ 2 ^ n
digit_size n h = let p : 2 ^ n ≤ 2 ^ 8 = pow_mono h in omega arith

-- The line of each form, up to BCD and of at most 32 bits.
module _ (width : ℕ) (slot : SlotRow) (raw : ℕ) (h : width ≤ widest_shown) where
  pub scaled_is : (form : ℕ) → form ≤ snm → form_line form width slot raw ≡ cond (within_limits slot raw) (number_line slot raw) (Invalid raw)
  unfolding form_line
  scaled_is form l = rw (lt-leb bmm form (omega arith), le-ltb widest_shown width h, le-leb form snm l)

  pub state_is : form_line sed width slot raw ≡ cond (within_limits slot raw) (State raw) (Unknown no_state_reason)
  unfolding form_line
  state_is = rw (le-ltb widest_shown width h)

  pub bits_is : form_line bmp width slot raw ≡ Bits raw
  unfolding form_line
  bits_is = rw (le-ltb widest_shown width h)

  pub text_is : form_line asc width slot raw ≡ text_line width raw
  unfolding form_line
  text_is = rw (le-ltb widest_shown width h)

  pub digits_is : form_line bcd width slot raw ≡ digits_line width raw
  unfolding form_line
  digits_is = rw (le-ltb widest_shown width h)

-- BCD is a range of digits from 0.
pub bcd_is :
    (form width : ℕ) (slot : SlotRow) (raw : ℕ)
    → form ≡ bcd
    → width ≤ widest_shown
    → form_line form width slot raw
    ≡ cond (eqb (width % 4) 0) (cond (digits_pass (λ (d : ℕ). leb 0 d && leb d 9) 4 (width / 4) raw) (Digits raw) (Invalid raw))
    (Unknown not_shown_reason)
unfolding digits_line
bcd_is form width slot raw e h =
    let told : digits_pass decimal 4 (width / 4) raw ≡ digits_pass (λ (d : ℕ). leb 0 d && leb d 9) 4 (width / 4) raw =
    ap (λ (p : ℕ → Bool). digits_pass p 4 (width / 4) raw) (sym (from_zero 9)) in
    ap (λ (f : ℕ). form_line f width slot raw) e
    ∙ digits_is width slot raw h
    ∙ ap (λ (b : Bool). cond (eqb (width % 4) 0) (cond b (Digits raw) (Invalid raw)) (Unknown not_shown_reason)) told

pub ruleset form_lines = (scaled_is, state_is, bits_is, text_is, bcd_is)

pub form_high : (form width : ℕ) (slot : SlotRow) (raw : ℕ) → bmm ≤ form → form_line form width slot raw ≡ Unknown not_shown_reason
unfolding form_line
form_high form width slot raw h = rw (le-leb bmm form h)

pub form_wide :
    (form width : ℕ) (slot : SlotRow) (raw : ℕ)
    → form < bmm
    → widest_shown < width
    → form_line form width slot raw ≡ Unknown too_wide_reason
unfolding form_line
form_wide form width slot raw h w = rw (lt-leb bmm form h, lt-ltb widest_shown width w)

-- What holds of each line that a form can give holds of the one that it gives.
pub form_among :
    (P : Line → Type 0) (form width : ℕ) (slot : SlotRow) (raw : ℕ)
    → (width ≤ widest_shown → P (number_line slot raw))
    → P (State raw)
    → P (Bits raw)
    → P (Text raw)
    → P (Digits raw)
    → P (Invalid raw)
    → P (Unknown not_shown_reason)
    → P (Unknown no_state_reason)
    → P (Unknown too_wide_reason)
    → P (form_line form width slot raw)
unfolding form_line text_line digits_line
form_among P form width slot raw number state bits text digits invalid u4 u5 u6 =
    of (leb bmm form) u4
    (narrow (ltb widest_shown width) u6 λ shown.
    of (leb form snm) (of (within_limits slot raw) (number (ltb-false _ _ shown)) invalid)
    (of (eqb form sed) (of (within_limits slot raw) state u5)
    (of (eqb form bmp) bits
    (of (eqb form asc)
    (of (eqb (width % 8) 0) (of (digits_pass printable 8 (width / 8) raw) text invalid) u4)
    (of (eqb (width % 4) 0) (of (digits_pass decimal 4 (width / 4) raw) digits invalid) u4)))))
  where
    narrow : (t : Bool) {l m : Line} → P l → (t ≡ false → P m) → P (cond t l m)
    narrow true a b = a
    narrow false a b = b refl

    of : (t : Bool) {l m : Line} → P l → P m → P (cond t l m)
    of true a b = a
    of false a b = b

-- A SLOT that an item of a width can have: of that width, in range, and its fields of their sizes.
pub record Scales (w : ℕ) (slot : SlotRow) : Type 0 where
  pub width : slot.width ≡ w
  pub ranges : SlotRanges slot
  pub sizes : SlotSizes slot

number_holds : (w : ℕ) (slot : SlotRow) (raw : ℕ) → Scales w slot → raw < 2 ^ w → w ≤ widest_shown → HoldsFraction (number_line slot raw)
unfolding number_line
number_holds w slot raw s r h =
    let small : raw < 2 ^ slot.width = subst (λ (k : ℕ). raw < 2 ^ k) (sym s.width) r in
    let shown : slot.width ≤ widest_shown = omega (arith, s.width) in
    let above-is = above_small slot raw s.ranges.key.width_least shown small s.sizes.multiplier s.sizes.offset in
    record {
      divided = refl;
      least = s.ranges.divisor;
      most = omega (arith, s.sizes.divisor);
      size = nat_abs-le (above slot raw) above-is;
    }

-- The line of a form holds a fraction where it is a Number.
pub form_holds :
    (form width : ℕ) (slot : SlotRow) (raw : ℕ) → Scales width slot → raw < 2 ^ width → HoldsFraction (form_line form width slot raw)
form_holds form width slot raw s r =
    form_among HoldsFraction form width slot raw (number_holds width slot raw s r) tt tt tt tt tt tt tt tt
