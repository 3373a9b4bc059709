-- The verdict's row stands behind those of the lines.
use Rattle.std.proofs.Common.{List, ◌++◌, length, ap, ◌∙◌, arith}
use Rattle.frame.specs.Bytes.{placed}
use Rattle.frame.proofs.bytes.Placed.{joined}
use Rattle.report.specs.declared.line.Line.{Line}
use Rattle.report.specs.Rows.{rows_of, verdict_row}
use Rattle.report.proofs.row.Laws.{lent_placed}
use Rattle.report.proofs.verdict.Laws.{verdict_told}
use Rattle.report.proofs.rows.put_report.Goals as goal

pub returns : goal.returns
returns c =
    let rows = rows_of c.as_slice.result.now in
    let put = c.put_lines-end in
    let size = ap (λ (ls : List Line). length (rows_of ls)) c.as_slice.ensures in
    let last = lent_placed put.new.out put.result (verdict_row c.number.result) c.put_body.ensures.placed (omega (arith, put.ensures.size)) in
    let told = c.number.ensures ∙ c.verdict_of-verdict.ensures ∙ verdict_told c.args.lines.now c.tally.ensures.sum in
    joined c.args.out.now 0 rows (verdict_row c.number.result) put.ensures.placed last (omega (arith, put.ensures.size)) (omega arith)
    ∙ (λ i. placed c.args.out.now 0 (rows_of (c.as_slice.ensures i) ++ verdict_row (told i)))
