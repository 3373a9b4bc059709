-- Demand 3 on the call: two calls for one reading, both accepted, the records of the first supplement standing in the second, which has no
-- new length for a header of the first's layouts.
use mathlib.Core.Path.{◌≡◌, sym, ap, ◌∙◌}
use mathlib.Core.List.{List, ◌++◌}
use Prim.Native.Nat.{ℕ, ◌+◌, ◌-◌}
use native.Mathlib.Omega.{arith}
use lib.ListN.{length, get_or}
use lib.Seq.{get_or-append-add}
use Rattle.frame.specs.Frame.{Parts}
use Rattle.frame.specs.Refusal.{Outcome, accepted}
use Rattle.catalogue.specs.Supplement.{records_of, Among, NoNewSelector}
use Rattle.catalogue.specs.Lookup.{catalogue}
use Rattle.report.specs.Report.{Report, message_of, lines_of, verdict}
use Rattle.report.specs.Rows.{rows_of, verdict_row, report_bytes}
use Rattle.report.specs.Answer.{shown, under, report_answer}
use Rattle.report.specs.Demand.{Alike, Keeps}
use Rattle.report.specs.TwoCalls.{verdict_in, Compared}
use Rattle.report.proofs.answer.Laws.{shown_is, verdict_length}
use Rattle.report.proofs.DemandThree.{lacks_exactly, messages_alike, demand_three}

verdict_last : (r : Report) → verdict_in (report_bytes r) ≡ verdict r
unfolding report_bytes
verdict_last r =
    let rows : List ℕ = rows_of (lines_of r) in
    let place : length (rows ++ verdict_row (verdict r)) - 1 ≡ length rows + 1 = omega (arith, verdict_length rows (verdict r)) in
    ap (λ (n : ℕ). get_or (rows ++ verdict_row (verdict r)) n 0) place ∙ get_or-append-add rows (verdict_row (verdict r)) 1 0

compared :
    (o : Outcome Parts) (s t : List ℕ) (p : Parts) (old new : List ℕ)
    → o ≡ accepted p
    → Keeps (under s p) (under t p)
    → Alike (catalogue s) (message_of (catalogue s) p) (message_of (catalogue t) p)
    → old ≡ report_bytes (under s p)
    → new ≡ report_bytes (under t p)
    → Compared o s t old new
compared o s t p old new r k alike e f =
    let v : verdict_in old ≡ verdict (under s p) = ap verdict_in e ∙ verdict_last (under s p) in
    let w : verdict_in new ≡ verdict (under t p) = ap verdict_in f ∙ verdict_last (under t p) in
    record {
      parts = p;
      read = r;
      first_rows = e;
      second_rows = f;
      lines = k;
      lacks = lacks_exactly (catalogue s) (catalogue t) _ _ alike;
      clear = λ h. w ∙ k.clear (sym v ∙ h);
      flagged = λ h. w ∙ k.flagged (sym v ∙ h);
      not_clear = λ n h. k.not_clear (λ g. n (w ∙ g)) (sym v ∙ h);
    }

-- Whatever two accepted calls for one reading hand over is compared so.
pub two_calls :
    (s t : List ℕ) (o : Outcome Parts) (room room' : ℕ) (old new : List ℕ)
    → Among s t
    → NoNewSelector (records_of s) (records_of t)
    → report_answer s o room ≡ shown old
    → report_answer t o room' ≡ shown new
    → Compared o s t old new
two_calls s t o room room' old new among kept e f =
    let a = shown_is s o room old e in
    let b = shown_is t o room' new f in
    let one : accepted a.parts ≡ accepted b.parts = sym a.read ∙ b.read in
    let same : a.parts ≡ b.parts = cc in
    compared o s t a.parts old new a.read (demand_three a.parts s t a.supplement b.supplement among kept)
    (messages_alike a.parts s t b.supplement among kept) a.told
    (b.told ∙ ap (λ (p : Parts). report_bytes (under t p)) (sym same))
