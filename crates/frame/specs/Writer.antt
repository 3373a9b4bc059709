-- Writing a frame of J1850: document 01, refusals 7, 4, 50, 51, 53, 1, 8 in that order.
use Rattle.std.specs.Prelude.{ℕ, not, List, [], ◌∷◌, ◌++◌, ltb, eqb, length}
use Rattle.frame.specs.CheckByte.{sealed}
use Rattle.frame.specs.Response.{is_unassigned, sent}
use Rattle.frame.specs.Count.{count_rules, data_given}
use Rattle.frame.specs.Header.{header_size, kind_asked}
use Rattle.frame.specs.Frame.{Frame, frame_size, most_bytes}
use Rattle.frame.specs.Refusal.{header_wrong, type_unassigned, too_long, output_short}
use Rattle.frame.specs.Refusal.{Outcome, outcome, Rule, first_broken}

-- The frame of some parts: check bytes join the first run and a kind 3 response.
unfoldable pub frame_of : List ℕ → List ℕ → List ℕ → Frame
frame_of header body response = record { first = sealed (header ++ body); response = sent (kind_asked header) response }

-- The writer's rules in their order, with those of the response's count at their place, for `room` bytes of lent output. The
-- length that H says is 1 or 3.
unfoldable pub write_rules_with : List Rule → List ℕ → List ℕ → List ℕ → ℕ → List Rule
write_rules_with counts header body response room =
    record { number = header_wrong; broken = not (eqb (length header) (header_size header)) }
    ∷ record { number = type_unassigned; broken = is_unassigned (kind_asked header) }
    ∷ (counts
    ++ record { number = too_long; broken = ltb most_bytes (frame_size (frame_of header body response)) }
    ∷ record { number = output_short; broken = ltb room (frame_size (frame_of header body response)) }
    ∷ [])

unfoldable pub write_rules : List ℕ → List ℕ → List ℕ → ℕ → List Rule
write_rules header body response room =
    write_rules_with (count_rules (kind_asked header) data_given (length response)) header body response room

unfoldable pub write_refusal : List ℕ → List ℕ → List ℕ → ℕ → ℕ
write_refusal header body response room = first_broken (write_rules header body response room)

unfoldable pub write_frame : List ℕ → List ℕ → List ℕ → ℕ → Outcome Frame
write_frame header body response room = outcome (write_refusal header body response room) (frame_of header body response)
