-- What the report of a reading answers, on any bus: document 01, "A report tests the supplement, then the frame, then 8."
use Rattle.std.specs.Prelude.{ℕ, cond, List, eqb, ltb, length, Result, Ok, Err}
use Rattle.frame.specs.Frame.{Parts}
use Rattle.frame.specs.Bytes.{placed}
use Rattle.frame.specs.Refusal.{output_short, no_refusal, Outcome}
use Rattle.frame.specs.Reader.{read_frame}
use Rattle.frame.specs.Iso.{read_iso}
use Rattle.catalogue.specs.Supplement.{check}
use Rattle.catalogue.specs.Lookup.{catalogue}
use Rattle.report.specs.declared.refusal.Refusal.{Refusal}
use Rattle.report.specs.Refusal.{number_of, place_of}
use Rattle.report.specs.Report.{Report, message_of, report_of}
use Rattle.report.specs.Rows.{report_bytes}
use Rattle.frame.specs.Refusal as frame

-- "A refusal returns its number, and for 10 to 15 a place", 0 for the others; or what is shown.
pub data Answer (A : Type 0) : Type 0 where
  refused : ℕ → ℕ → Answer A
  shown : A → Answer A

-- Lent output shorter than the rows.
unfoldable pub fitted : ℕ → List ℕ → Answer (List ℕ)
fitted room rows = cond (ltb room (length rows)) (refused output_short 0) (shown rows)

-- The report of a frame's parts under a supplement.
abbrev pub under : List ℕ → Parts → Report
under s p = report_of (catalogue s) (message_of (catalogue s) p)

-- The rows of what was read.
unfoldable pub answer_of : List ℕ → Outcome Parts → ℕ → Answer (List ℕ)
answer_of s (frame.refused n) room = refused n 0
answer_of s (frame.accepted p) room = fitted room (report_bytes (under s p))

-- The supplement, then the reading, then 8, for `room` bytes of lent output.
unfoldable pub report_answer : List ℕ → Outcome Parts → ℕ → Answer (List ℕ)
report_answer s o room = cond (eqb (check s).refusal no_refusal) (answer_of s o room) (refused (check s).refusal (check s).place)

-- The same for a frame of J1850, given as its two runs.
abbrev pub j1850_answer : List ℕ → List ℕ → List ℕ → ℕ → Answer (List ℕ)
j1850_answer s first response room = report_answer s (read_frame first response) room

-- The same for a message of ISO 9141-2, given as its run.
abbrev pub iso_answer : List ℕ → List ℕ → ℕ → Answer (List ℕ)
iso_answer s run room = report_answer s (read_iso run) room

-- Lent output afterwards: the rows at its start and all else as it was; refused, as it was.
abbrev pub out_after : Answer (List ℕ) → List ℕ → List ℕ
out_after (refused n place) out = out
out_after (shown rows) out = placed out 0 rows

-- What is handed over of the rows: their length.
abbrev pub sized : Answer (List ℕ) → Answer ℕ
sized (refused n place) = refused n place
sized (shown rows) = shown (length rows)

-- What the call gives: the length of the rows, or a refusal as its number and place.
abbrev pub reported_of : Result ℕ Refusal → Answer ℕ
reported_of (Ok size) = shown size
reported_of (Err e) = refused (number_of e) (place_of e)
