-- What the sizes of a frame's parts, as they are told to C, cut out of its run, and the report of that: only laws speak of it.
use Rattle.std.specs.Prelude.{ℕ, ◌+◌, ◌≤◌, cond, List, eqb, length, take, drop}
use Rattle.frame.specs.Frame.{Sizes, most_bytes}
use Rattle.frame.specs.Refusal.{Outcome, refused, accepted, no_refusal}
use Rattle.catalogue.specs.Supplement.{check}
use Rattle.catalogue.specs.Lookup.{catalogue}
use Rattle.report.specs.Rows.{report_bytes}
use Rattle.report.specs.Report.{report_from}
use Rattle.report.specs.Answer.{Answer, fitted}
use Rattle.report.specs.Answer as answer

-- The sizes of what a reader hands over cut header and data out of a run of at most twelve bytes.
abbrev pub Cuts : List ℕ → Outcome Sizes → Type 0
Cuts run (refused n) = Unit {0}
Cuts run (accepted z) = (z.header + z.body ≤ length run) × (length run ≤ most_bytes)

-- The report of what they cut out, and the answer with it: the supplement, then the reading, then 8.
unfoldable pub cut_answer : List ℕ → List ℕ → Outcome Sizes → ℕ → Answer (List ℕ)
cut_answer s run (refused n) room = answer.refused n 0
cut_answer s run (accepted z) room =
    fitted room (report_bytes (report_from (catalogue s) (take z.header run) (take z.body (drop z.header run)) z.kind))

unfoldable pub sizes_answer : List ℕ → List ℕ → Outcome Sizes → ℕ → Answer (List ℕ)
sizes_answer s run o room = cond (eqb (check s).refusal no_refusal) (cut_answer s run o room) (answer.refused (check s).refusal (check s).place)
