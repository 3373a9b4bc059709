-- Laws of rows: the ranges and sizes of their fields, one by one.
use mathlib.Core.Path.{◌≡◌}
use mathlib.Core.Bool.{true, ◌&&◌}
use Prim.Native.Nat.{ℕ, ◌^◌, ◌≤◌, ◌<◌}
use borrow.Author.Tests.{leb-true, ltb-true, lt-ltb}
use lib.Dec.{leb}
use Rattle.catalogue.specs.declared.rows.PrnRow.{PrnRow}
use Rattle.catalogue.specs.declared.rows.SlotRow.{SlotRow}
use Rattle.catalogue.specs.Rows.{unm, pkt, widest, in_order, key_fits, prn_fits, slot_fits, slot_sized}
use Rattle.catalogue.proofs.search.Laws.{both}

-- The ranges of a row, one by one.
pub record KeyRanges (form width : ℕ) : Type 0 where
  pub form_least : unm ≤ form
  pub form_most : form ≤ pkt
  pub width_least : 1 ≤ width
  pub width_most : width ≤ widest

pub key_ranges : (f w : ℕ) → key_fits f w ≡ true → KeyRanges f w
unfolding key_fits
key_ranges f w e =
    let t = both (leb unm f && leb f pkt) (leb 1 w && leb w widest) e in
    let form = both (leb unm f) (leb f pkt) t.0 in
    let width = both (leb 1 w) (leb w widest) t.1 in
    record {
      form_least = leb-true unm f form.0;
      form_most = leb-true f pkt form.1;
      width_least = leb-true 1 w width.0;
      width_most = leb-true w widest width.1;
    }

pub prn_ranges : (r : PrnRow) → prn_fits r ≡ true → KeyRanges r.form r.width
unfolding prn_fits
prn_ranges r e = key_ranges r.form r.width e

pub record SlotRanges (r : SlotRow) : Type 0 where
  pub key : KeyRanges r.form r.width
  pub divisor : 1 ≤ r.divisor
  pub limits : in_order r.form r.lowest r.highest ≡ true

pub slot_ranges : (r : SlotRow) → slot_fits r ≡ true → SlotRanges r
unfolding slot_fits
slot_ranges r e =
    let t = both (key_fits r.form r.width && leb 1 r.divisor) (in_order r.form r.lowest r.highest) e in
    let s = both (key_fits r.form r.width) (leb 1 r.divisor) t.0 in
    record { key = key_ranges r.form r.width s.0; divisor = leb-true 1 r.divisor s.1; limits = t.1 }

pub record SlotSizes (r : SlotRow) : Type 0 where
  pub number : r.number < 2 ^ 16
  pub multiplier : r.multiplier < 2 ^ 16
  pub divisor : r.divisor < 2 ^ 16
  pub offset : r.offset < 2 ^ 32
  pub lowest : r.lowest < 2 ^ 32
  pub highest : r.highest < 2 ^ 32

pub slot_sizes : (r : SlotRow) → slot_sized r ≡ true → SlotSizes r
unfolding slot_sized
slot_sizes r e =
    let five = both _ _ e in
    let four = both _ _ five.0 in
    let three = both _ _ four.0 in
    let two = both _ _ three.0 in
    let one = both _ _ two.0 in
    record {
      number = ltb-true _ _ one.0;
      multiplier = ltb-true _ _ one.1;
      divisor = ltb-true _ _ two.1;
      offset = ltb-true _ _ three.1;
      lowest = ltb-true _ _ four.1;
      highest = ltb-true _ _ five.1;
    }

pub sized_slot : (r : SlotRow) → SlotSizes r → slot_sized r ≡ true
unfolding slot_sized
sized_slot r s =
    rw (
      lt-ltb r.number (2 ^ 16) s.number,
      lt-ltb r.multiplier (2 ^ 16) s.multiplier,
      lt-ltb r.divisor (2 ^ 16) s.divisor,
      lt-ltb r.offset (2 ^ 32) s.offset,
      lt-ltb r.lowest (2 ^ 32) s.lowest,
      lt-ltb r.highest (2 ^ 32) s.highest,
    )
