-- What SAE tables and a list of records hold together.
use Rattle.std.specs.Prelude.{ℕ, ◌-◌, ◌/◌, ◌%◌, ◌≤◌, ◌≡◌, List, [], ◌∷◌, ◌++◌, length, take, get_or, replicate, Option, Some, unwrap_or, option_map}
use Rattle.std.specs.Option.{option_or}
use Rattle.catalogue.specs.declared.rows.PrnRow.{PrnRow}
use Rattle.catalogue.specs.declared.rows.SlotRow.{SlotRow}
use Rattle.catalogue.specs.Sae.{sae_prn, sae_slot}
use Rattle.catalogue.specs.Kind.{slot_kind, prn_kind, layout_kind, selector_kind}
use Rattle.catalogue.specs.Record.{FullKey, LayoutRow, most_prns, record_with, slot_row, prn_row, selector_length, layout_places, layout_row}
use Rattle.catalogue.specs.Supplement.{records_of}

-- Kind and key of the record sought.
abbrev pub prn_key : ℕ → List ℕ
prn_key prn = prn_kind ∷ prn / 256 ∷ prn % 256 ∷ []

abbrev pub slot_key : ℕ → ℕ → ℕ → List ℕ
slot_key form width number = slot_kind ∷ form ∷ width ∷ number / 256 ∷ number % 256 ∷ []

abbrev pub selector_key : ℕ → ℕ → List ℕ
selector_key first target = selector_kind ∷ first ∷ target ∷ []

-- Of a layout: first byte, target, the selector's length and its bytes, "unused ones zero".
abbrev pub layout_key : ℕ → ℕ → List ℕ → List ℕ
layout_key first target selector = layout_kind ∷ first ∷ target ∷ length selector ∷ get_or selector 0 0 ∷ get_or selector 1 0 ∷ []

-- Lookups by PRN, by form, width and number, by a header's first byte and target, and by a layout's kind and key as bytes.
pub record Catalogue : Type 0 where
  pub prn : ℕ → Option PrnRow
  pub slot : ℕ → ℕ → ℕ → Option SlotRow
  pub selector : ℕ → ℕ → Option ℕ
  pub layout : List ℕ → Option LayoutRow

-- The SAE tables first, the records after.
unfoldable pub catalogue_of : List (List ℕ) → Catalogue
catalogue_of rs =
    record {
      prn = λ p. option_or (sae_prn p) (option_map prn_row (record_with (prn_key p) rs));
      slot = λ f w n. option_or (sae_slot f w n) (option_map slot_row (record_with (slot_key f w n) rs));
      selector = λ b t. option_map selector_length (record_with (selector_key b t) rs);
      layout = λ key. option_map layout_row (record_with key rs);
    }

-- A supplement's catalogue is that of its records.
abbrev pub catalogue : List ℕ → Catalogue
catalogue s = catalogue_of (records_of s)

-- The selector's length for a header: "a header without one keeps length 1".
abbrev pub usual_length : ℕ
usual_length = 1

unfoldable pub length_for : Catalogue → ℕ → ℕ → ℕ
length_for c first target = unwrap_or (c.selector first target) usual_length

-- Whatever the first catalogue finds, the second finds the same.
pub record Within (c d : Catalogue) : Type 0 where
  pub prn : (p : ℕ) (row : PrnRow) → c.prn p ≡ Some row → d.prn p ≡ Some row
  pub slot : (f w n : ℕ) (row : SlotRow) → c.slot f w n ≡ Some row → d.slot f w n ≡ Some row
  pub selector : (b t n : ℕ) → c.selector b t ≡ Some n → d.selector b t ≡ Some n
  pub layout : (key : List ℕ) → FullKey key → (l : LayoutRow) → c.layout key ≡ Some l → d.layout key ≡ Some l

-- So many PRNs of a layout record, and zeros in the other places.
unfoldable pub prns_used : ℕ → List ℕ → List ℕ
prns_used n r = take n (layout_places r) ++ replicate (most_prns - n) 0

-- A layout's PRNs in sixteen places, and zeros in the other places.
unfoldable pub in_sixteen : List ℕ → List ℕ
in_sixteen prns = prns ++ replicate (most_prns - length prns) 0

-- So many of sixteen places have PRNs that are used, and the others are zero.
pub record UsedFirst (n : ℕ) (prns : List ℕ) : Type 0 where
  pub most : n ≤ most_prns
  pub used : length (take n prns) ≡ n
  pub rest : in_sixteen (take n prns) ≡ prns
