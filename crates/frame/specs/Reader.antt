-- Reading a frame of J1850: document 01, "The frame", and refusals 1, 2, 3, 4, 50, 51, 52, 53, 6 in that order.
use Rattle.std.specs.Prelude.{ℕ, ◌+◌, ◌≤◌, ◌≡◌, true, not, ◌&&◌, List, [], ◌∷◌, ◌++◌, ltb, length, take}
use Rattle.frame.specs.CheckByte.{is_sealed}
use Rattle.frame.specs.Response.{is_unassigned, is_checked, response_size, ResponseObeys}
use Rattle.frame.specs.Count.{count_rules, data_sent}
use Rattle.frame.specs.Header.{header_size, kind_asked}
use Rattle.frame.specs.Frame.{Parts, parts_at, most_bytes}
use Rattle.frame.specs.Refusal.{too_long, too_short, check_wrong, type_unassigned, response_check_wrong}
use Rattle.frame.specs.Refusal.{Outcome, outcome, Rule, first_broken}

-- The reader's rules in their order, with those of the response's count at their place.
unfoldable pub read_rules_with : List Rule → List ℕ → List ℕ → List Rule
read_rules_with counts first response =
    record { number = too_long; broken = ltb most_bytes (length first + length response) }
    ∷ record { number = too_short; broken = ltb (length first) (header_size first + 1) }
    ∷ record { number = check_wrong; broken = not (is_sealed first) }
    ∷ record { number = type_unassigned; broken = is_unassigned (kind_asked first) }
    ∷ (counts
    ++ record { number = response_check_wrong; broken = is_checked (kind_asked first) && not (is_sealed response) }
    ∷ [])

unfoldable pub read_rules : List ℕ → List ℕ → List Rule
read_rules first response = read_rules_with (count_rules (kind_asked first) data_sent (length response)) first response

unfoldable pub read_refusal : List ℕ → List ℕ → ℕ
read_refusal first response = first_broken (read_rules first response)

unfoldable pub parts_of : List ℕ → List ℕ → Parts
parts_of first response =
    let kind = kind_asked first in parts_at (header_size first) first kind (take (response_size kind (length response)) response)

unfoldable pub read_frame : List ℕ → List ℕ → Outcome Parts
read_frame first response = outcome (read_refusal first response) (parts_of first response)

-- The rules of an accepted frame, said without an order.
pub record FrameObeys (first response : List ℕ) : Type 0 where
  pub most : length first + length response ≤ most_bytes
  pub long : header_size first + 1 ≤ length first
  pub check : is_sealed first ≡ true
  pub by_kind : ResponseObeys (kind_asked first) response
