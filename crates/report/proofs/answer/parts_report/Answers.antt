-- The rows of the report fit lent output, or they do not.
use mathlib.Core.Path.{◌≡◌, ap, ◌∙◌, subst, sym}
use mathlib.Core.List.{List}
use Prim.Native.Nat.{◌+◌}
use native.Mathlib.Omega.{arith}
use lib.ListN.{length}
use Rattle.frame.specs.Bytes.{placed}
use Rattle.frame.specs.Frame.{handed}
use Rattle.frame.specs.Refusal.{output_short}
use Rattle.catalogue.specs.Lookup.{catalogue}
use Rattle.catalogue.proofs.Accepted.{good}
use Rattle.report.specs.declared.line.Line.{Line}
use Rattle.report.specs.declared.tally.Tally.{Tally}
use Rattle.report.specs.Verdict.{verdict_of}
use Rattle.report.specs.Report.{Report, message_of, lines_of}
use Rattle.report.specs.Rows.{byte_row_size, rows_of, report_bytes}
use Rattle.report.specs.Answer.{refused, shown, under}
use Rattle.report.specs.Inner.{AllHold, tally_of}
use Rattle.report.proofs.message.Held.{numbers_hold}
use Rattle.report.proofs.answer.Laws.{rows_told, size_told_lem, verdict_length, settled, too_long_lem, fits}
use Rattle.report.proofs.answer.parts_report.Goals as goal

-- How long the rows are that the lines tell.
size : (q : Report) {ls : List Line} {t : Tally} → ls ≡ lines_of q → t ≡ tally_of ls → t.size + byte_row_size ≡ length (report_bytes q)
size q shows sum = size_told_lem q (sum ∙ ap tally_of shows)

pub returns-then-out-size : goal.returns-then-out-size
returns-then-out-size c =
    let a = c.args in
    let q : Report = under a.supplement.now.bytes.now (handed a.parts) in
    let room = size q c.add_message.ensures c.tally-size.ensures.sum in
    let long = too_long_lem (report_bytes q) (length a.out.now) (omega (arith, room, c.if-out-size.true)) in
    let e = settled (refused output_short 0) _ a.out.now long in
    record { told = e.0; left = e.1 }

pub put_report-requires : goal.put_report-requires
put_report-requires c =
    let a = c.args in
    let s = a.supplement.now in
    let q : Report = under s.bytes.now (handed a.parts) in
    let shows = c.add_message.ensures in
    let ls = c.add_message.new.lines in
    let room = size q shows c.tally-size.ensures.sum in
    let told = rows_told ls q shows in
    -- every Number among the lines is a fraction
    let holds : AllHold ls =
    subst AllHold (sym shows)
    (numbers_hold s.bytes.now s.fit (good s.bytes.now s.accepted) (message_of (catalogue s.bytes.now) (handed a.parts))) in
    let long : length (rows_of ls) + byte_row_size ≡ length (report_bytes q) =
    sym (verdict_length (rows_of ls) (verdict_of ls)) ∙ ap length told in
    (holds, omega (arith, long, room, c.if-out-size.false))

pub returns : goal.returns
returns c =
    let a = c.args in
    let out = a.out.now in
    let q : Report = under a.supplement.now.bytes.now (handed a.parts) in
    let shows = c.add_message.ensures in
    let room = size q shows c.tally-size.ensures.sum in
    let told = rows_told c.add_message.new.lines q shows in
    let e = settled (shown (report_bytes q)) _ out (fits (report_bytes q) (length out) (omega (arith, room, c.if-out-size.false))) in
    record { told = ap shown room ∙ e.0; left = c.put_report.ensures ∙ ap (placed out 0) told ∙ e.1 }
