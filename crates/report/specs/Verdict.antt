-- The verdict of lines: document 01, "The report".
use Rattle.std.specs.Prelude.{ℕ, Bool, false, cond, ◌||◌, List, [], ◌∷◌}
use Rattle.report.specs.declared.line.Line.{Line}
use Rattle.report.specs.declared.verdict.Verdict.{Verdict}
use Rattle.report.specs.declared.verdict.Verdict.TheVariants.{Clear, Flagged, Unknown}
use Rattle.report.specs.Line.{is_flagged, is_unknown}

abbrev pub verdict_clear : ℕ
verdict_clear = 1

abbrev pub verdict_flagged : ℕ
verdict_flagged = 2

abbrev pub verdict_unknown : ℕ
verdict_unknown = 3

-- The numbers of the enum's variants, as above.
abbrev pub verdict_number : Verdict → ℕ
verdict_number Clear = verdict_clear
verdict_number Flagged = verdict_flagged
verdict_number Unknown = verdict_unknown

-- Whether a test holds for a line.
unfoldable pub any : (Line → Bool) → List Line → Bool
any p [] = false
any p (l ∷ ls) = p l || any p ls

-- Flagged if a line flags it, otherwise Unknown if a line is Unknown, otherwise Clear.
abbrev pub verdict_by : Bool → Bool → ℕ
verdict_by flagged unknown = cond flagged verdict_flagged (cond unknown verdict_unknown verdict_clear)

unfoldable pub verdict_of : List Line → ℕ
verdict_of ls = verdict_by (any is_flagged ls) (any is_unknown ls)
