-- Why a line is Unknown, and what a line does to the verdict: document 01, "The report".
use Rattle.std.specs.Prelude.{ℕ, Bool, true, false, not, eqb}
use Rattle.report.specs.declared.line.Reason.{Reason}
use Rattle.report.specs.declared.line.Reason.TheVariants.{NoPrn, PlaceLost, NoSlot, NotShown, NoState, TooWide, DataResponse, NoLayout}
use Rattle.report.specs.declared.line.Line.{Line}
use Rattle.report.specs.declared.line.Line.TheVariants.{Number, State, Bits, Text, Digits, Invalid, Short, Unknown, Left, Answered}

-- "PRN in neither table, Unknown 1"; "place lost, Unknown 2"; "no SLOT of that form, width and number, Unknown 3"
abbrev pub no_prn_reason : Reason
no_prn_reason = NoPrn

abbrev pub place_lost_reason : Reason
place_lost_reason = PlaceLost

abbrev pub no_slot_reason : Reason
no_slot_reason = NoSlot

-- "form BMM, SFP or PKT, Unknown 4", and a width that holds no whole characters or digits; SED outside the raw limits, Unknown 5;
-- "width over 32, Unknown 6"
abbrev pub not_shown_reason : Reason
not_shown_reason = NotShown

abbrev pub no_state_reason : Reason
no_state_reason = NoState

abbrev pub too_wide_reason : Reason
too_wide_reason = TooWide

-- "kind 3, Unknown 7"; "no layout, Unknown 8"
abbrev pub data_response_reason : Reason
data_response_reason = DataResponse

abbrev pub no_layout_reason : Reason
no_layout_reason = NoLayout

-- Their numbers, as above.
abbrev pub reason_number : Reason → ℕ
reason_number NoPrn = 1
reason_number PlaceLost = 2
reason_number NoSlot = 3
reason_number NotShown = 4
reason_number NoState = 5
reason_number TooWide = 6
reason_number DataResponse = 7
reason_number NoLayout = 8

-- A line flags the report if it is Invalid or Short, or Left and not 0; it leaves it Unknown if it is Unknown.
abbrev pub is_flagged : Line → Bool
is_flagged (Number x n d) = false
is_flagged (State n) = false
is_flagged (Bits n) = false
is_flagged (Text n) = false
is_flagged (Digits n) = false
is_flagged (Invalid n) = true
is_flagged Short = true
is_flagged (Unknown n) = false
is_flagged (Left n) = not (eqb n 0)
is_flagged (Answered n) = false

abbrev pub is_unknown : Line → Bool
is_unknown (Number x n d) = false
is_unknown (State n) = false
is_unknown (Bits n) = false
is_unknown (Text n) = false
is_unknown (Digits n) = false
is_unknown (Invalid n) = false
is_unknown Short = false
is_unknown (Unknown n) = true
is_unknown (Left n) = false
is_unknown (Answered n) = false
