-- Records of a supplement: document 01, "The supplement"; document 02, K5. A record is its bytes, the kind byte first.
use Rattle.std.specs.Prelude.{ℕ, zero, suc, ◌+◌, ◌*◌, ◌<◌, ◌≡◌, Bool, true, false, cond, not, ◌&&◌}
use Rattle.std.specs.Prelude.{List, [], ◌∷◌, eqb, leb, ltb, length, get_or, take, drop, Option, is_some}
use Rattle.frame.specs.Bytes.{all_zero}
use Rattle.frame.specs.Header.{priority, bit_h}
use Rattle.frame.specs.Refusal.{Rule, first_broken}
use Rattle.catalogue.specs.Search.{first_where}
use Rattle.catalogue.specs.declared.rows.PrnRow.{PrnRow}
use Rattle.catalogue.specs.declared.rows.SlotRow.{SlotRow}
use Rattle.catalogue.specs.Refusal.{unknown_kind, cut_by_end, outside_range, key_repeated, key_in_sae}
use Rattle.catalogue.specs.Rows.{prn_fits, slot_fits}
use Rattle.catalogue.specs.Kind.{slot_kind, prn_kind, layout_kind, selector_kind, record_size, key_size, known}
use Rattle.catalogue.specs.Sae.{sae_prn, sae_slot}

-- Its kind; kind and key.
abbrev pub record_kind : List ℕ → ℕ
record_kind r = get_or r 0 0

abbrev pub key_of : List ℕ → List ℕ
key_of r = take (key_size (record_kind r)) r

-- Whether a record has that kind and key.
unfoldable pub has_key : List ℕ → List ℕ → Bool
has_key [] r = true
has_key (k ∷ ks) [] = false
has_key (k ∷ ks) (b ∷ bs) = eqb k b && has_key ks bs

-- The first record of a list with a kind and key.
unfoldable pub record_with : List ℕ → List (List ℕ) → Option (List ℕ)
record_with key rs = first_where (has_key key) rs

-- A kind and key as long as the kind says.
pub record FullKey (key : List ℕ) : Type 0 where
  pub kind : 0 < length key
  pub size : length key ≡ key_size (record_kind key)

-- Numbers have the most significant byte first.
unfoldable pub two : List ℕ → ℕ → ℕ
two r i = get_or r i 0 * 256 + get_or r (i + 1) 0

unfoldable pub four : List ℕ → ℕ → ℕ
four r i = two r i * 65536 + two r (i + 2)

-- The fields of a SLOT record and of a PRN record.
unfoldable pub slot_row : List ℕ → SlotRow
slot_row r =
    record {
      form = get_or r 1 0;
      width = get_or r 2 0;
      number = two r 3;
      multiplier = two r 5;
      divisor = two r 7;
      offset = four r 9;
      lowest = four r 13;
      highest = four r 17;
    }

unfoldable pub prn_row : List ℕ → PrnRow
prn_row r = record { prn = two r 1; form = get_or r 3 0; width = get_or r 4 0; slot = two r 5 }

-- What a layout and a kind 4 record begin with: "first byte, target", which are a header, and "selector length 0, 1 or 2".
abbrev pub header_in : List ℕ → List ℕ
header_in r = get_or r 1 0 ∷ get_or r 2 0 ∷ []

abbrev pub selector_length : List ℕ → ℕ
selector_length r = get_or r 3 0

abbrev pub most_selector : ℕ
most_selector = 2

-- A layout's fields behind them: "two selector bytes follow";
abbrev pub selector_bytes : List ℕ → List ℕ
selector_bytes r = get_or r 4 0 ∷ get_or r 5 0 ∷ []

-- then its PRNs.
pub record LayoutRow : Type 0 where
  pub prns : List ℕ

-- "count (0 to 16), sixteen PRNs (2 each)"
abbrev pub most_prns : ℕ
most_prns = 16

abbrev pub layout_count : List ℕ → ℕ
layout_count r = get_or r 6 0

-- The byte where the PRNs begin.
abbrev pub prns_at : ℕ
prns_at = 7

-- As many numbers as are asked for, from a byte on.
unfoldable pub numbers : ℕ → ℕ → List ℕ → List ℕ
numbers zero i r = []
numbers (suc n) i r = two r i ∷ numbers n (i + 2) r

-- All sixteen; the layout's are as many of them as its count says.
abbrev pub layout_places : List ℕ → List ℕ
layout_places r = numbers most_prns prns_at r

unfoldable pub layout_row : List ℕ → LayoutRow
layout_row r = record { prns = take (layout_count r) (layout_places r) }

-- A header's ranges: with H = 0 the priority bits are zero, with H = 1 the target is.
unfoldable pub header_fits : ℕ → ℕ → Bool
header_fits first target = cond (eqb (bit_h first) 0) (eqb (priority first) 0) (eqb target 0)

-- Those of kind 4: "keyed by the first two, which obey a layout's ranges", and "selector length 0, 1 or 2".
unfoldable pub selector_fits : List ℕ → Bool
selector_fits r = header_fits (get_or r 1 0) (get_or r 2 0) && leb (selector_length r) most_selector

-- Those of a layout: the same, "two selector bytes follow, unused ones zero", the count is 0 to 16, and unused PRNs are zero.
unfoldable pub layout_fits : List ℕ → Bool
layout_fits r =
    selector_fits r
    && (all_zero (drop (selector_length r) (selector_bytes r)) && (leb (layout_count r) most_prns && all_zero (drop (prns_at + layout_count r * 2) r)))

-- Rule 13, by kind; nothing of an unknown kind is in range.
unfoldable pub in_range : List ℕ → Bool
in_range r =
    cond (eqb (record_kind r) slot_kind) (slot_fits (slot_row r))
    (cond (eqb (record_kind r) prn_kind) (prn_fits (prn_row r))
    (cond (eqb (record_kind r) layout_kind) (layout_fits r) (cond (eqb (record_kind r) selector_kind) (selector_fits r) false)))

-- Rule 15, by kind: the SAE tables have SLOTs and PRNs.
unfoldable pub in_sae : List ℕ → Bool
in_sae r =
    cond (eqb (record_kind r) slot_kind) (is_some (sae_slot (slot_row r).form (slot_row r).width (slot_row r).number))
    (cond (eqb (record_kind r) prn_kind) (is_some (sae_prn (prn_row r).prn)) false)

-- A record's fault: the lowest refusal that applies after the records `seen`, or 0.
unfoldable pub fault_rules : List (List ℕ) → List ℕ → List Rule
fault_rules seen r =
    record { number = unknown_kind; broken = not (known (record_kind r)) }
    ∷ record { number = cut_by_end; broken = ltb (length r) (record_size (record_kind r)) }
    ∷ record { number = outside_range; broken = not (in_range r) }
    ∷ record { number = key_repeated; broken = is_some (record_with (key_of r) seen) }
    ∷ record { number = key_in_sae; broken = in_sae r }
    ∷ []

unfoldable pub fault : List (List ℕ) → List ℕ → ℕ
fault seen r = first_broken (fault_rules seen r)
