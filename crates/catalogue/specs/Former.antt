-- The layout as it was before selectors had lengths: document 01, "The supplement". Only laws speak of it.
use Rattle.std.specs.Prelude.{ℕ, ◌+◌, ◌*◌, ◌≤◌, ◌<◌, ◌≡◌, true, cond, List, [], ◌∷◌, ◌++◌, eqb, length, take, drop, get_or, None, option_map}
use Rattle.catalogue.specs.Kind.{layout_kind, selector_kind}
use Rattle.catalogue.specs.Record.{LayoutRow, most_prns, record_kind, record_with, selector_length, numbers, header_fits}
use Rattle.catalogue.specs.Supplement.{Stands}
use Rattle.catalogue.specs.Lookup.{Catalogue, catalogue_of, usual_length}

-- "first byte, target, selector present (0 or 1), selector", which were the key,
abbrev pub former_key : ℕ → ℕ → ℕ → ℕ → List ℕ
former_key first target present selector = layout_kind ∷ first ∷ target ∷ present ∷ selector ∷ []

abbrev pub former_key_size : ℕ
former_key_size = 1 + 4

-- "count (0 to 16), sixteen PRNs (2 each)".
abbrev pub former_count : List ℕ → ℕ
former_count r = get_or r 5 0

abbrev pub former_prns_at : ℕ
former_prns_at = 6

unfoldable pub former_row : List ℕ → LayoutRow
former_row r = record { prns = take (former_count r) (numbers most_prns former_prns_at r) }

-- "document 01's layouts gain zeros": the second selector byte, behind the former key. Other records stay as they are.
abbrev pub gained : ℕ
gained = 0

unfoldable pub grown : List ℕ → List ℕ
grown r = cond (eqb (record_kind r) layout_kind) (take former_key_size r ++ gained ∷ drop former_key_size r) r

-- A layout of that form in range: "Kind 3, layout, body 37".
abbrev pub former_size : ℕ
former_size = 1 + 37

pub record FormerLayout (l : List ℕ) : Type 0 where
  pub kind : record_kind l ≡ layout_kind
  pub whole : length l ≡ former_size
  -- "with H = 0 the priority bits are zero; with H = 1 the target is zero";
  pub header : header_fits (get_or l 1 0) (get_or l 2 0) ≡ true
  -- "selector present (0 or 1)"; "an absent selector is zero";
  pub present : get_or l 3 0 ≤ 1
  pub absent : get_or l 3 0 ≡ 0 → get_or l 4 0 ≡ 0
  -- "count (0 to 16)"; "unused PRNs are zero".
  pub count : former_count l ≤ most_prns
  pub unused : (i : ℕ) → former_prns_at + former_count l * 2 ≤ i → get_or l i 0 ≡ 0

-- What may follow a record: nothing, or another record, whose kind is not 0.
abbrev pub Follows : List ℕ → Type 0
Follows [] = Unit {0}
Follows (kind ∷ rest) = 0 < kind

-- What the SAE tables and records of the former form hold together.
unfoldable pub former_catalogue : List (List ℕ) → Catalogue
former_catalogue rs =
    record {
      prn = (catalogue_of rs).prn;
      slot = (catalogue_of rs).slot;
      selector = λ b t. None;
      layout = λ key. option_map former_row (record_with key rs);
    }

-- "a supplement without kind 4 records", its layouts of length 1, or of 0 as document 01 had them too.
pub record AsFormer (s : List ℕ) : Type 0 where
  pub selectors : (r : List ℕ) → Stands r s → record_kind r ≡ selector_kind → ⊥
  pub layouts : (r : List ℕ) → Stands r s → record_kind r ≡ layout_kind → selector_length r ≤ usual_length
