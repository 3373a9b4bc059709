-- The verdict, said of the lines that a report shows: document 01, "The report".
use Rattle.std.specs.Prelude.{ℕ, ◌≡◌, ◌↔◌, ◌⊎◌}
use mathlib.Core.List.{List, Memᴰ}
use Rattle.report.specs.declared.line.Reason.{Reason}
use Rattle.report.specs.declared.line.Line.{Line}
use Rattle.report.specs.declared.line.Line.TheVariants.{Invalid, Short, Unknown, Left}
use Rattle.report.specs.Verdict.{verdict_clear, verdict_flagged, verdict_unknown}
use Rattle.report.specs.Report.{Report, lines_of, verdict}

-- "a line is Invalid or Short or Left is not 0"; "a line is Unknown"
abbrev pub ShowsFlagged : List Line → Type 0
ShowsFlagged ls = ((n : ℕ) × Memᴰ (Invalid n) ls) ⊎ (Memᴰ Short ls ⊎ ((n : ℕ) × Memᴰ (Left n) ls × (n ≡ 0 → ⊥)))

abbrev pub ShowsUnknown : List Line → Type 0
ShowsUnknown ls = (n : Reason) × Memᴰ (Unknown n) ls

-- The verdict of every report, from the lines that it shows.
pub record Judged (r : Report) : Type 0 where
  -- "Flagged (2) if a line is Invalid or Short or Left is not 0;
  pub flagged : (verdict r ≡ verdict_flagged) ↔ ShowsFlagged (lines_of r)
  -- otherwise Unknown (3) if a line is Unknown;
  pub unknown : (verdict r ≡ verdict_unknown) ↔ ((ShowsFlagged (lines_of r) → ⊥) × ShowsUnknown (lines_of r))
  -- otherwise Clear (1)"
  pub clear : (verdict r ≡ verdict_clear) ↔ ((ShowsFlagged (lines_of r) → ⊥) × (ShowsUnknown (lines_of r) → ⊥))
