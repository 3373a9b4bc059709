-- The law of Left: document 01, "Promises a buyer can hold you to".
use Rattle.std.specs.Prelude.{ℕ, ◌+◌, ◌-◌, ◌≡◌, ◌⊎◌, Option, None, Some}
use mathlib.Core.List.{List, [], ◌∷◌, Memᴰ}
use Rattle.catalogue.specs.declared.rows.PrnRow.{PrnRow}
use Rattle.catalogue.specs.Record.{LayoutRow}
use Rattle.catalogue.specs.Lookup.{Catalogue}
use Rattle.report.specs.declared.line.Line.{Line}
use Rattle.report.specs.declared.line.Line.TheVariants.{Short, Unknown, Left}
use Rattle.report.specs.Line.{no_prn_reason, place_lost_reason}
use Rattle.report.specs.Report.{Group}

-- The width of an item as the catalogue knows it; a PRN in neither table has none.
unfoldable pub width_of : Option PrnRow → ℕ
width_of None = 0
width_of (Some row) = row.width

-- "item widths": those of a layout's PRNs together.
unfoldable pub item_widths : (ℕ → Option PrnRow) → List ℕ → ℕ
item_widths rows [] = 0
item_widths rows (prn ∷ prns) = width_of (rows prn) + item_widths rows prns

-- A line is Short; a line is lost: "PRN in neither table, Unknown 1, and the place is lost from here", "place lost, Unknown 2".
abbrev pub ShowsShort : List Line → Type 0
ShowsShort ls = Memᴰ Short ls

abbrev pub ShowsLost : List Line → Type 0
ShowsLost ls = Memᴰ (Unknown no_prn_reason) ls ⊎ Memᴰ (Unknown place_lost_reason) ls

-- The remainder of a group whose layout was found, from its item lines, its part and its PRNs.
pub record Accounted (c : Catalogue) (l : LayoutRow) (g : Group) : Type 0 where
  -- "item widths plus Left equal the bits after the selector, if no line is Short or lost"
  pub left :
      (ShowsShort g.items → ⊥)
      → (ShowsLost g.items → ⊥)
      → (n : ℕ) × (g.remainder ≡ Left n) × (item_widths c.prn (g.part.prns l) + n ≡ g.part.to - g.part.from)
  -- "place lost, Unknown 2;
  pub lost : ShowsLost g.items → g.remainder ≡ Unknown place_lost_reason
  -- a Short line, Short"
  pub short : ShowsShort g.items → g.remainder ≡ Short
