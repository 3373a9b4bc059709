-- What a report hands over leaves each field of its answer its bits, on any bus.
use mathlib.Core.Path.{◌≡◌}
use mathlib.Core.List.{List}
use Prim.Native.Nat.{ℕ}
use native.Mathlib.Omega.{arith}
use Rattle.frame.specs.Refusal.{Outcome}
use Rattle.frame.specs.Frame.{Parts}
use Rattle.report.specs.Answer.{Answer, report_answer, sized}
use Rattle.report.specs.Answer as answer
use Rattle.report.proofs.Size.{place_within, size_within}
use Rattle.c_api.specs.Inner.{SmallAnswer}

pub small_answer :
    (s : List ℕ) (o : Outcome Parts) (room : ℕ) (q : Answer ℕ) → q ≡ sized (report_answer s o room) → SmallAnswer q
small_answer s o room (answer.refused n place) e = omega (arith, place_within s o room n place e)
small_answer s o room (answer.shown size) e = omega (arith, size_within s o room size e)
