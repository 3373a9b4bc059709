-- Each refusal in its order, then the report of the parts.
use mathlib.Core.Path.{◌≡◌, sym, ap, ◌∙◌}
use mathlib.Core.List.{List}
use Prim.Native.Nat.{ℕ}
use lib.ListN.{length}
use Rattle.std.proofs.Common.{Err}
use Rattle.std.proofs.lemmas.Result.{err_from_is_err_and}
use Rattle.frame.specs.Frame.{Parts, handed, reading_of}
use Rattle.frame.specs.Refusal.{Outcome}
use Rattle.catalogue.specs.Supplement.{check}
use Rattle.catalogue.proofs.Accepted.{checked_accepted}
use Rattle.report.specs.Rows.{report_bytes}
use Rattle.report.specs.Answer.{reported_of, fitted, under, answer_of, report_answer}
use Rattle.report.proofs.answer.Laws.{settled, fault_told, accepted_supplement}
use Rattle.report.proofs.answer.reading_report.Goals as goal

pub returns-in_err-supplement : goal.returns-in_err-supplement
returns-in_err-supplement c =
    let a = c.args in
    let told = fault_told a.supplement.now (reading_of a.reading) (length a.out.now) c.in_err-supplement.field-0.0 c.in_err-supplement.ensures.told in
    let e = settled _ _ a.out.now told in
    let gives = err_from_is_err_and c.from_residual.result c.from_residual.ensures.1 in
    record { told = ap reported_of (gives.1 ∙ ap Err gives.2) ∙ e.0; left = e.1 }

-- Where the supplement is accepted, the answer is that of the reading.
answered :
    (s : List ℕ) (room : ℕ) {o r : Outcome Parts}
    → record { refusal = 0; place = 0 } ≡ check s
    → r ≡ o
    → answer_of s o room ≡ report_answer s r room
answered s room {o} accepts e = sym (accepted_supplement s o room (checked_accepted s accepts)) ∙ ap (λ (q : Outcome Parts). report_answer s q room) (sym e)

pub returns-in_err-reading : goal.returns-in_err-reading
unfolding answer_of
returns-in_err-reading c =
    let a = c.args in
    let e = settled _ _ a.out.now (answered a.supplement.now (length a.out.now) c.in_ok-supplement.ensures.told (ap reading_of c.in_err-reading.was)) in
    let gives = err_from_is_err_and c.from_residual-in_err-reading.result c.from_residual-in_err-reading.ensures.1 in
    record { told = ap reported_of (gives.1 ∙ ap Err gives.2) ∙ e.0; left = e.1 }

pub returns : goal.returns
unfolding answer_of
returns c =
    let a = c.args in
    let room = length a.out.now in
    let bytes = ap (λ (s : List ℕ). fitted room (report_bytes (under s (handed c.in_ok-reading.field-0)))) c.in_ok-supplement.ensures.same in
    let e = settled _ _ a.out.now (bytes ∙ answered a.supplement.now room c.in_ok-supplement.ensures.told (ap reading_of c.in_ok-reading.was)) in
    let told = c.parts_report.ensures in
    record { told = told.told ∙ e.0; left = told.left ∙ e.1 }
