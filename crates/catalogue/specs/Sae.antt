-- The SAE rows by their keys, and the rule of both tables: document 01, "SLOTs and PRNs".
use Rattle.std.specs.Prelude.{ℕ, ◌+◌, ◌*◌, ◌^◌, Bool, ◌&&◌, map, eqb, Option}
use Rattle.catalogue.specs.declared.rows.PrnRow.{PrnRow}
use Rattle.catalogue.specs.declared.rows.SlotRow.{SlotRow}
use Rattle.catalogue.specs.Rows.{prn_fits, slot_fits, prn_sized, slot_sized}
use Rattle.catalogue.specs.Tables.{prn_rows, slot_rows}
use Rattle.catalogue.specs.Search.{first_where, every, rising}

-- The keys: a row's PRN; a SLOT's form, width and number.
abbrev pub prn_is : ℕ → PrnRow → Bool
prn_is p r = eqb r.prn p

abbrev pub slot_is : ℕ → ℕ → ℕ → SlotRow → Bool
slot_is f w n r = eqb r.form f && eqb r.width w && eqb r.number n

-- The SAE row of a PRN, and the SAE row of a form, width and number; none where document 003 gives no such row.
unfoldable pub sae_prn : ℕ → Option PrnRow
sae_prn p = first_where (prn_is p) prn_rows

unfoldable pub sae_slot : ℕ → ℕ → ℕ → Option SlotRow
sae_slot f w n = first_where (slot_is f w n) slot_rows

-- A SLOT's key as one number: form, then width, then number.
abbrev pub packed : ℕ → ℕ → ℕ → ℕ
packed f w n = f * 2 ^ 24 + w * 2 ^ 16 + n

abbrev pub prn_row_key : PrnRow → ℕ
prn_row_key r = r.prn

abbrev pub slot_row_key : SlotRow → ℕ
slot_row_key r = packed r.form r.width r.number

-- The rule of both tables: PRNs rise and SLOT keys rise, so that none stands twice, and every row has its sizes and ranges.
unfoldable pub tables_hold : Bool
tables_hold =
    rising (map prn_row_key prn_rows)
    && rising (map slot_row_key slot_rows)
    && every prn_fits prn_rows
    && every slot_fits slot_rows
    && every prn_sized prn_rows
    && every slot_sized slot_rows
