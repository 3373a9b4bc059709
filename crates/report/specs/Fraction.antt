-- What holds of every Number that a report shows: document 02, K3, "Each Number must carry the whole number above the line and the
-- divisor, unreduced, beside the double".
use Rattle.std.specs.Prelude.{ℕ, ◌^◌, ◌≤◌, ◌≡◌, ℤ, nat_abs, Float}
use mathlib.Core.List.{List, Memᴰ}
use Rattle.frame.specs.Bytes.{Bytes}
use Rattle.frame.specs.Frame.{Parts}
use Rattle.catalogue.specs.Supplement.{Accepted}
use Rattle.report.specs.declared.line.Line.{Line}
use Rattle.report.specs.Scaling.{quotient}
use Rattle.report.specs.Report.{lines_of}
use Rattle.report.specs.Answer.{under}

-- The largest divisor, and the largest size of a whole number above the line.
abbrev pub most_divisor : ℕ
most_divisor = 65535

abbrev pub most_above : ℕ
most_above = 2 ^ 49

-- A double, a whole number and a divisor that belong together: the double is the whole number over the divisor, divided once; the divisor
-- is 1 to 65535; the whole number is within 2^49 in size.
pub record IsFraction (x : Float) (n : ℤ) (d : ℕ) : Type 0 where
  pub divided : x ≡ quotient n d
  pub least : 1 ≤ d
  pub most : d ≤ most_divisor
  pub size : nat_abs n ≤ most_above

-- A line that some report shows: of the parts of a frame, under an accepted supplement.
pub record ShownLine (l : Line) : Type 0 where
  pub supplement : List ℕ
  pub bytes : Bytes supplement
  pub accepted : Accepted supplement
  pub parts : Parts
  pub line : Memᴰ l (lines_of (under supplement parts))
