-- Laws of the SAE tables: what their rule gives at each row, and that a search by key finds the row.
use Rattle.std.proofs.Common.{Option, None, Some}
use mathlib.Core.Path.{◌≡◌, refl, sym, ap, ◌∙◌}
use mathlib.Core.Bool.{Bool, true, false, ◌&&◌, true≢false}
use mathlib.Core.List.{List, map}
use Prim.Native.Nat.{ℕ, ◌≤◌, ◌<◌}
use native.Mathlib.Omega.{arith}
use borrow.Author.Tests.{ltb-true, eqb-true, eq-eqb, ne_eqb}
use lib.Dec.{eqb, ltb}
use Rattle.catalogue.specs.declared.rows.PrnRow.{PrnRow}
use Rattle.catalogue.specs.declared.rows.SlotRow.{SlotRow}
use Rattle.catalogue.specs.Rows.{bmm, prn_fits, slot_fits, slot_sized}
use Rattle.catalogue.specs.Tables.{prn_rows, slot_rows}
use Rattle.catalogue.specs.Search.{first_where, every, rising}
use Rattle.catalogue.specs.Sae.{prn_is, slot_is, sae_prn, sae_slot, packed, prn_row_key, slot_row_key}
use Rattle.catalogue.specs.Inner.{key_is}
use Rattle.frame.proofs.bytes.Laws.{cases}
use Rattle.catalogue.proofs.SaeTables.{table_rule}
use Rattle.catalogue.proofs.rows.Laws.{slot_ranges, SlotSizes, slot_sizes}
use Rattle.catalogue.proofs.search.Laws.{both, found_is, none_found, first_same, every_is}

-- What is found by a PRN has that PRN and its ranges.
pub sae_prn_fits : (p : ℕ) (row : PrnRow) → sae_prn p ≡ Some row → (row.prn ≡ p) × (prn_fits row ≡ true)
unfolding sae_prn
sae_prn_fits p row e =
    let t = found_is (prn_is p) prn_rows row e in
    (eqb-true row.prn p t.0, every_is prn_fits prn_rows table_rule.prn_fits_lem row t.1)

-- What is found by form, width and number has them, its ranges and its sizes.
pub record SlotTold (f w n : ℕ) (row : SlotRow) : Type 0 where
  pub form : row.form ≡ f
  pub width : row.width ≡ w
  pub number : row.number ≡ n
  pub fits : slot_fits row ≡ true
  pub sizes : SlotSizes row

pub sae_slot_fits : (f w n : ℕ) (row : SlotRow) → sae_slot f w n ≡ Some row → SlotTold f w n row
unfolding sae_slot
sae_slot_fits f w n row e =
    let t = found_is (slot_is f w n) slot_rows row e in
    let two = both (eqb row.form f && eqb row.width w) (eqb row.number n) t.0 in
    let one = both (eqb row.form f) (eqb row.width w) two.0 in
    record {
      form = eqb-true row.form f one.0;
      width = eqb-true row.width w one.1;
      number = eqb-true row.number n two.1;
      fits = every_is slot_fits slot_rows table_rule.slot_fits_lem row t.1;
      sizes = slot_sizes row (every_is slot_sized slot_rows table_rule.slot_sized_lem row t.1);
    }

-- Packed keys are equal exactly when form, width and number are.
packed_is :
    (a b c f w n : ℕ)
    → b < 256
    → c < 65536
    → w < 256
    → n < 65536
    → eqb (packed a b c) (packed f w n) ≡ (eqb a f && eqb b w && eqb c n)
packed_is a b c f w n hb hc hw hn =
    cases (eqb a f && eqb b w && eqb c n)
    (λ t.
    let two = both (eqb a f && eqb b w) (eqb c n) t in
    let one = both (eqb a f) (eqb b w) two.0 in
    eq-eqb (packed a b c) (packed f w n)
    (omega (arith, eqb-true a f one.0, eqb-true b w one.1, eqb-true c n two.1))
    ∙ sym t)
    (λ g.
    ne_eqb (packed a b c) (packed f w n)
    (λ e.
    let af : a ≡ f = omega arith in
    let bw : b ≡ w = omega arith in
    let cn : c ≡ n = omega arith in
    true≢false (sym (λ i. eqb_same af i && eqb_same bw i && eqb_same cn i) ∙ g))
    ∙ sym g)
  where
    eqb_same : {x y : ℕ} → x ≡ y → eqb x y ≡ true
    eqb_same {x} {y} e = eq-eqb x y e

-- What a search by PRN finds is the SAE row.
pub prn_searched :
    (p : ℕ) {rows : List PrnRow} {o : Option PrnRow}
    → rows ≡ prn_rows
    → o ≡ first_where (λ r. key_is p (prn_row_key r)) rows
    → o ≡ sae_prn p
unfolding sae_prn
prn_searched p same told = told ∙ ap (first_where (prn_is p)) same

pub prn_rises : {rows : List PrnRow} → rows ≡ prn_rows → rising (map prn_row_key rows) ≡ true
prn_rises same = rw same table_rule.prn_rising

-- A SLOT is sought by its packed key.
slot_packed : (f w n : ℕ) → w < 256 → n < 65536 → first_where (λ r. key_is (packed f w n) (slot_row_key r)) slot_rows ≡ sae_slot f w n
unfolding sae_slot
slot_packed f w n hw hn =
    first_same (λ r. key_is (packed f w n) (slot_row_key r)) (slot_is f w n) slot_rows
    (λ r m.
    let s = slot_sizes r (every_is slot_sized slot_rows table_rule.slot_sized_lem r m) in
    let t = slot_ranges r (every_is slot_fits slot_rows table_rule.slot_fits_lem r m) in
    packed_is r.form r.width r.number f w n (omega (arith, t.key.width_most)) (omega (arith, s.number)) hw hn)

-- No SAE SLOT has a number of two bytes.
small_numbers : every (λ r. ltb r.number 256) slot_rows ≡ true
unfolding slot_rows every
small_numbers = refl

pub slot_beyond : (f w n : ℕ) → 255 < n → None ≡ sae_slot f w n
unfolding sae_slot
slot_beyond f w n h =
    sym
    (none_found (slot_is f w n) slot_rows
    (λ r m.
    let small : r.number < 256 = ltb-true r.number 256 (every_is (λ q. ltb q.number 256) slot_rows small_numbers r m) in
    rw (ne_eqb r.number n (λ e. omega arith)) (and_false (eqb r.form f && eqb r.width w))))
  where
    and_false : (b : Bool) → (b && false) ≡ false
    and_false true = refl
    and_false false = refl

-- No SAE SLOT has a form that reports do not scale.
scaled_forms : every (λ r. ltb r.form bmm) slot_rows ≡ true
unfolding slot_rows every
scaled_forms = refl

pub slot_unscaled : (f w n : ℕ) → bmm ≤ f → None ≡ sae_slot f w n
unfolding sae_slot
slot_unscaled f w n h =
    sym
    (none_found (slot_is f w n) slot_rows
    (λ r m.
    let scaled : r.form < bmm = ltb-true r.form bmm (every_is (λ q. ltb q.form bmm) slot_rows scaled_forms r m) in
    rw (ne_eqb r.form f (λ e. omega arith)) refl))

-- What a search by packed key finds is the SAE row.
pub slot_searched :
    (f w n : ℕ) {k : ℕ} {rows : List SlotRow} {o : Option SlotRow}
    → w < 256
    → n < 65536
    → k ≡ packed f w n
    → rows ≡ slot_rows
    → o ≡ first_where (λ r. key_is k (slot_row_key r)) rows
    → o ≡ sae_slot f w n
slot_searched f w n hw hn key same told = told ∙ (λ i. first_where (λ r. key_is (key i) (slot_row_key r)) (same i)) ∙ slot_packed f w n hw hn

pub slot_rises : {rows : List SlotRow} → rows ≡ slot_rows → rising (map slot_row_key rows) ≡ true
slot_rises same = rw same table_rule.slot_rising
