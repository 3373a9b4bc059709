-- After i turns the rows of the first i lines stand one behind the other.
use Rattle.std.proofs.Common.{arith, rules}
use Rattle.report.proofs.rows.Laws.{none_laid, room_next, one_laid}
use Rattle.report.proofs.rows.put_lines.Goals as goal

pub loop-line-init : goal.loop-line-init
loop-line-init c = none_laid _ _

pub slice_bounds-put_row-count : goal.slice_bounds-put_row-count
slice_bounds-put_row-count c =
    let next = room_next c.args.lines.now c.args.out.now c.requires.1 _ _ _ c.loop-line-test.true c.loop-line.invariant in
    omega arith

pub slice_bounds-put_row-start : goal.slice_bounds-put_row-start
slice_bounds-put_row-start c =
    let next = room_next c.args.lines.now c.args.out.now c.requires.1 _ _ _ c.loop-line-test.true c.loop-line.invariant in
    search rules

pub loop-line-preserved : goal.loop-line-preserved
loop-line-preserved c =
    let put = c.put_row-end.ensures in
    one_laid c.args.lines.now c.args.out.now c.requires.1 _ _ _ c.loop-line-test.true c.loop-line.invariant put.placed put.size
