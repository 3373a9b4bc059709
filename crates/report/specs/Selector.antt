-- The data are the selector and the items: document 02, K5.
use Rattle.std.specs.Prelude.{ℕ, ◌+◌, ◌*◌, min, ◌≡◌, List, ◌++◌, length, drop}
use Rattle.frame.specs.Frame.{Parts}
use Rattle.catalogue.specs.Record.{LayoutRow}
use Rattle.catalogue.specs.Lookup.{Catalogue, length_for}
use Rattle.report.specs.declared.line.Line.TheVariants.{Left}
use Rattle.report.specs.Bits.{cut}
use Rattle.report.specs.Report.{Group, key_byte, key_target, selector_of}
use Rattle.report.specs.Left.{item_widths, ShowsShort, ShowsLost}

-- The selector of a frame under a catalogue, and the data behind it.
abbrev pub selector_in : Catalogue → Parts → List ℕ
selector_in c p = selector_of c p.header p.body

abbrev pub after_selector : Catalogue → Parts → List ℕ
after_selector c p = drop (length (selector_in c p)) p.body

pub record Divided (c : Catalogue) (p : Parts) : Type 0 where
  -- The selector has the length that is said for the header; "If the data are shorter than the length, the selector is what there is."
  pub size : length (selector_in c p) ≡ min (length_for c (key_byte p.header) (key_target p.header)) (length p.body)
  -- "items and selector together are the data":
  pub whole : selector_in c p ++ after_selector c p ≡ p.body
  -- "The items follow the selector": what is cut out of the data behind it is cut out of what follows.
  pub items : (at width : ℕ) → cut p.body (8 * length (selector_in c p) + at) width ≡ cut (after_selector c p) at width

-- A group of the report whose layout was found: "item widths plus Left equal the bits after the selector, if no line is Short or lost".
abbrev pub LeftBehind : Catalogue → Parts → LayoutRow → Group → Type 0
LeftBehind c p l g =
    (ShowsShort g.items → ⊥)
    → (ShowsLost g.items → ⊥)
    → (n : ℕ) × (g.remainder ≡ Left n) × (item_widths c.prn l.prns + n ≡ 8 * length (after_selector c p))
