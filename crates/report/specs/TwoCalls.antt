-- Demand 3 on the call itself: what two accepted calls for one reading hand over, on any bus.
use Rattle.std.specs.Prelude.{ℕ, ◌-◌, ◌≡◌, ◌↔◌, List, length, get_or, None, Some}
use Rattle.frame.specs.Frame.{Parts}
use Rattle.frame.specs.Refusal.{Outcome, accepted}
use Rattle.catalogue.specs.Lookup.{catalogue}
use Rattle.report.specs.declared.line.Line.{Line}
use Rattle.report.specs.Verdict.{verdict_clear, verdict_flagged}
use Rattle.report.specs.Report.{message_of}
use Rattle.report.specs.Rows.{report_bytes}
use Rattle.report.specs.Answer.{under}
use Rattle.report.specs.Demand.{item, line_at, Lacks, Keeps}

-- The verdict that a report's rows end in.
abbrev pub verdict_in : List ℕ → ℕ
verdict_in rows = get_or rows (length rows - 1) 0

-- For what a reader gave of one frame, under two supplements: the rows `old` under the first and `new` under the second.
pub record Compared (o : Outcome Parts) (s t old new : List ℕ) : Type 0 where
  -- The reader accepted the frame with certain parts;
  pub parts : Parts
  pub read : o ≡ accepted parts
  -- the rows are those of these parts' reports,
  pub first_rows : old ≡ report_bytes (under s parts)
  pub second_rows : new ≡ report_bytes (under t parts)
  -- whose lines keep demand 3;
  pub lines : Keeps (under s parts) (under t parts)
  -- "the first supplement lacks the layout that the second report uses": what `Lacks` says of an item line that the second has,
  pub lacks :
      (g i : ℕ) (l : Line)
      → line_at (under t parts) (item g i) ≡ Some l
      → Lacks (under s parts) (item g i) ↔ ((catalogue s).layout (message_of (catalogue t) parts).key ≡ None)
  -- and the verdicts that the rows end in keep it too.
  pub clear : verdict_in old ≡ verdict_clear → verdict_in new ≡ verdict_clear
  pub flagged : verdict_in old ≡ verdict_flagged → verdict_in new ≡ verdict_flagged
  pub not_clear : (verdict_in new ≡ verdict_clear → ⊥) → verdict_in old ≡ verdict_clear → ⊥
