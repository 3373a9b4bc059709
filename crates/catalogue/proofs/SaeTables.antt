-- The rule of both SAE tables, by one computed test.
use mathlib.Core.Path.{◌≡◌, refl}
use mathlib.Core.Bool.{true}
use mathlib.Core.List.{map}
use Rattle.catalogue.specs.Rows.{in_order, key_fits, prn_fits, slot_fits, prn_sized, slot_sized}
use Rattle.catalogue.specs.Tables.{prn_rows, slot_rows}
use Rattle.catalogue.specs.Search.{every, rising}
use Rattle.catalogue.specs.Sae.{prn_row_key, slot_row_key, tables_hold}
use Rattle.catalogue.proofs.search.Laws.{both}

-- The rule of both tables: document 01, "One statement over the whole table gives its order and ranges".
pub tables_hold_lem : tables_hold ≡ true
unfolding tables_hold rising every prn_fits slot_fits prn_sized slot_sized key_fits in_order prn_rows slot_rows
tables_hold_lem = refl

-- Its parts.
pub record TableRule : Type 0 where
  pub prn_rising : rising (map prn_row_key prn_rows) ≡ true
  pub slot_rising : rising (map slot_row_key slot_rows) ≡ true
  pub prn_fits_lem : every prn_fits prn_rows ≡ true
  pub slot_fits_lem : every slot_fits slot_rows ≡ true
  pub prn_sized_lem : every prn_sized prn_rows ≡ true
  pub slot_sized_lem : every slot_sized slot_rows ≡ true

pub table_rule : TableRule
unfolding tables_hold
table_rule =
    let five = both _ _ tables_hold_lem in
    let four = both _ _ five.0 in
    let three = both _ _ four.0 in
    let two = both _ _ three.0 in
    let one = both _ _ two.0 in
    record {
      prn_rising = one.0;
      slot_rising = one.1;
      prn_fits_lem = two.1;
      slot_fits_lem = three.1;
      prn_sized_lem = four.1;
      slot_sized_lem = five.1;
    }
