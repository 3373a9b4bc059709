-- What only inner functions cite: places within a window, Numbers that are fractions, what lines add up to. No
-- public contract reaches here.
use Rattle.std.specs.Prelude.{ℕ, ◌+◌, ◌-◌, ◌≤◌, ◌≡◌, ◌||◌, List, [], ◌∷◌, ◌++◌, length, take, replicate}
use Rattle.std.specs.Coded.{Unit-prop, le_prop}
use Rattle.catalogue.specs.Record.{most_prns}
use Rattle.report.specs.declared.spots.Place.{Place}
use Rattle.report.specs.declared.spots.Place.TheVariants.{Bit, Lost, Past}
use Rattle.report.specs.declared.spots.Spot.{Spot}
use Rattle.report.specs.declared.spots.Spot.TheVariants.{Astray, Beyond, Rowless, Over, Lies}
use Rattle.report.specs.declared.line.Line.{Line}
use Rattle.report.specs.declared.line.Line.TheVariants.{Number, State, Bits, Text, Digits, Invalid, Short, Unknown, Left, Answered}
use Rattle.report.specs.declared.tally.Tally.{Tally}
use Rattle.report.specs.Line.{is_flagged, is_unknown}
use Rattle.report.specs.Verdict.{any}
use Rattle.report.specs.Rows.{row, rows_of}
use Rattle.report.specs.Fraction.{IsFraction}

-- A report has at most as many lines: the items, a remainder and a response.
abbrev pub most_lines : ℕ
most_lines = most_prns + 2

-- A place that is not behind the bit where items end.
abbrev pub Inside : ℕ → Place → Type 0
Inside to (Bit at) = at ≤ to
Inside to Lost = Unit {0}
Inside to Past = Unit {0}

pub Inside-prop : (to : ℕ) (place : Place) → IsProp (Inside to place)
Inside-prop to (Bit at) = le_prop
Inside-prop to Lost = Unit-prop
Inside-prop to Past = Unit-prop

-- An item that lies somewhere has a width, and lies within so many bits.
abbrev pub Lying : ℕ → Spot → Type 0
Lying to Astray = Unit {0}
Lying to Beyond = Unit {0}
Lying to Rowless = Unit {0}
Lying to Over = Unit {0}
Lying to (Lies row at) = (1 ≤ row.width) × (at + row.width ≤ to)

-- A Number is a fraction; of any other line nothing is said.
abbrev pub HoldsFraction : Line → Type 0
HoldsFraction (Number x n d) = IsFraction x n d
HoldsFraction (State n) = Unit {0}
HoldsFraction (Bits n) = Unit {0}
HoldsFraction (Text n) = Unit {0}
HoldsFraction (Digits n) = Unit {0}
HoldsFraction (Invalid n) = Unit {0}
HoldsFraction Short = Unit {0}
HoldsFraction (Unknown n) = Unit {0}
HoldsFraction (Left n) = Unit {0}
HoldsFraction (Answered n) = Unit {0}

unfoldable pub AllHold : List Line → Type 0
AllHold [] = Unit {0}
AllHold (l ∷ ls) = HoldsFraction l × AllHold ls

-- What one line and what some lines add up to.
abbrev pub weight : Line → Tally
weight l = record { flagged = is_flagged l; unknown = is_unknown l; size = length (row l) }

abbrev pub together : Tally → Tally → Tally
together t u = record { flagged = t.flagged || u.flagged; unknown = t.unknown || u.unknown; size = t.size + u.size }

unfoldable pub tally_of : List Line → Tally
tally_of ls = record { flagged = any is_flagged ls; unknown = any is_unknown ls; size = length (rows_of ls) }

-- As many places as a report has lines at the most: lines, and Short behind them.
unfoldable pub in_places : List Line → List Line
in_places ls = ls ++ replicate (most_lines - length ls) Short

-- So many places hold lines, which add up to a tally; the others are Short.
pub record LinesHeld (held : List Line) (n : ℕ) (t : Tally) : Type 0 where
  pub most : n ≤ most_lines
  pub used : length (take n held) ≡ n
  pub rest : in_places (take n held) ≡ held
  pub sum : tally_of (take n held) ≡ t
