-- The line of an item, from its spot and its SLOT: document 01, "The report".
use Rattle.std.specs.Prelude.{ℕ, List, Option, None, Some}
use Rattle.catalogue.specs.declared.rows.PrnRow.{PrnRow}
use Rattle.catalogue.specs.declared.rows.SlotRow.{SlotRow}
use Rattle.report.specs.declared.spots.Spot.{Spot}
use Rattle.report.specs.declared.spots.Spot.TheVariants.{Astray, Beyond, Rowless, Over, Lies}
use Rattle.report.specs.declared.line.Line.{Line}
use Rattle.report.specs.declared.line.Line.TheVariants.{Short, Unknown}
use Rattle.report.specs.Line.{no_prn_reason, place_lost_reason, no_slot_reason}
use Rattle.report.specs.Bits.{cut}
use Rattle.report.specs.Scaling.{form_line}

-- "no SLOT of that form, width and number, Unknown 3"; with one, by the form.
unfoldable pub slot_line : Option SlotRow → PrnRow → List ℕ → ℕ → Line
slot_line None row bytes at = Unknown no_slot_reason
slot_line (Some slot) row bytes at = form_line row.form row.width slot (cut bytes at row.width)

-- "place lost, Unknown 2; an earlier line Short, Short; PRN in neither table, Unknown 1 .. item ends past the data, Short"
unfoldable pub item_line : (ℕ → ℕ → ℕ → Option SlotRow) → List ℕ → Spot → Line
item_line slots bytes Astray = Unknown place_lost_reason
item_line slots bytes Beyond = Short
item_line slots bytes Rowless = Unknown no_prn_reason
item_line slots bytes Over = Short
item_line slots bytes (Lies row at) = slot_line (slots row.form row.width row.slot) row bytes at
