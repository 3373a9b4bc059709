-- Where each item of a layout lies: document 01, "The report", the first rules of an item line. It follows from the PRNs' rows alone.
use Rattle.std.specs.Prelude.{ℕ, ◌+◌, cond, List, [], ◌∷◌, ltb, Option, None, Some}
use Rattle.catalogue.specs.declared.rows.PrnRow.{PrnRow}
use Rattle.report.specs.declared.spots.Place.{Place}
use Rattle.report.specs.declared.spots.Place.TheVariants.{Bit, Lost, Past}
use Rattle.report.specs.declared.spots.Spot.{Spot}
use Rattle.report.specs.declared.spots.Spot.TheVariants.{Astray, Beyond, Rowless, Over, Lies}

-- An item that begins at a bit, by its PRN's row and the bit where items end: "PRN in neither table"; "item ends past the data".
unfoldable pub spot_at : Option PrnRow → ℕ → ℕ → Spot
spot_at None to at = Rowless
spot_at (Some row) to at = cond (ltb to (at + row.width)) Over (Lies row at)

-- "place lost"; "an earlier line Short"; else by the PRN's row.
unfoldable pub spot_of : (ℕ → Option PrnRow) → ℕ → Place → ℕ → Spot
spot_of rows to Lost prn = Astray
spot_of rows to Past prn = Beyond
spot_of rows to (Bit at) prn = spot_at (rows prn) to at

-- The place behind an item: "the place is lost from here"; behind a Short line it is past the data, else behind the item.
abbrev pub behind : Spot → Place
behind Astray = Lost
behind Beyond = Past
behind Rowless = Lost
behind Over = Past
behind (Lies row at) = Bit (at + row.width)

-- The spots of a layout's PRNs in their order, and the place behind the last.
unfoldable pub spots : (ℕ → Option PrnRow) → ℕ → Place → List ℕ → List Spot
spots rows to place [] = []
spots rows to place (prn ∷ prns) = spot_of rows to place prn ∷ spots rows to (behind (spot_of rows to place prn)) prns

unfoldable pub place_after : Place → List Spot → Place
place_after place [] = place
place_after place (spot ∷ rest) = place_after (behind spot) rest
