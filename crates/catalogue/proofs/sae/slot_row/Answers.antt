-- The row that the search finds among the SAE rows.
use native.Mathlib.Omega.{arith}
use Rattle.catalogue.proofs.sae.Laws.{slot_beyond, slot_unscaled, slot_searched, slot_rises}
use Rattle.catalogue.proofs.sae.slot_row.Goals as goal

pub returns-then-number-gt-HIGHEST_NUMBER : goal.returns-then-number-gt-HIGHEST_NUMBER
returns-then-number-gt-HIGHEST_NUMBER c = slot_beyond _ _ _ c.if-number-gt-HIGHEST_NUMBER.true

pub returns-then-form-ge-BMM : goal.returns-then-form-ge-BMM
returns-then-form-ge-BMM c = slot_unscaled _ _ _ c.if-form-ge-BMM.true

pub row_with-requires : goal.row_with-requires
row_with-requires c = slot_rises c.slot_rows.ensures

pub returns : goal.returns
returns c =
    let a = c.args in
    slot_searched a.form a.width a.number (omega arith) (omega arith) c.packed.ensures c.slot_rows.ensures c.row_with.ensures
