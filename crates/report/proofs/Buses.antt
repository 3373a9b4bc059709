-- Demand 3 on the calls of each bus, and one report on either: the theorems over any reading, for the readings that there are.
use mathlib.Core.Path.{◌≡◌, ap}
use mathlib.Core.Bool.{false}
use mathlib.Core.List.{List, []}
use Prim.Native.Nat.{ℕ}
use lib.ListN.{length}
use Rattle.frame.specs.Header.{three_byte_form}
use Rattle.frame.specs.Reader.{read_frame}
use Rattle.frame.specs.Writer.{frame_of}
use Rattle.frame.specs.Iso.{wrong_first, read_iso, iso_frame}
use Rattle.frame.proofs.SameReading.{same_reading}
use Rattle.catalogue.specs.Supplement.{records_of, Among, NoNewSelector}
use Rattle.report.specs.Answer.{shown, report_answer, j1850_answer, iso_answer}
use Rattle.report.specs.TwoCalls.{Compared}
use Rattle.report.proofs.TwoCalls.{two_calls}

-- Two supplements, two rooms and the rows that two calls hand over.
module _
    (s t : List ℕ)
    (room room' : ℕ)
    (old new : List ℕ)
    (among : Among s t)
    (kept : NoNewSelector (records_of s) (records_of t))
  where
    pub j1850_two_calls :
        (first response : List ℕ)
        → j1850_answer s first response room ≡ shown old
        → j1850_answer t first response room' ≡ shown new
        → Compared (read_frame first response) s t old new
    j1850_two_calls first response = two_calls s t (read_frame first response) room room' old new among kept

    pub iso_two_calls :
        (run : List ℕ) → iso_answer s run room ≡ shown old → iso_answer t run room' ≡ shown new → Compared (read_iso run) s t old new
    iso_two_calls run = two_calls s t (read_iso run) room room' old new among kept

-- "Layouts are shared, so a header 68h 6Ah finds the key 08h, 6Ah.": header and data have one report, whichever bus they came by.
pub same_report :
    (s h d : List ℕ) (room : ℕ)
    → length h ≡ three_byte_form
    → wrong_first h ≡ false
    → iso_answer s (iso_frame h d).first room ≡ j1850_answer s (frame_of h d []).first (frame_of h d []).response room
same_report s h d room size right = ap (λ o. report_answer s o room) (same_reading h d size right)
