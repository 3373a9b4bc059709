-- After i turns the rows of the first i lines stand one behind the other.
use Rattle.report.proofs.rows.Laws.{Laid}
use Rattle.report.proofs.rows.put_lines.Given as goal

abbrev pub invariant-loop-line : goal.invariant-loop-line
invariant-loop-line l = Laid l.lines l.initial.out l.out l.end l.line-index
