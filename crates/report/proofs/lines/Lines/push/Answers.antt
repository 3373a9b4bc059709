-- The line is counted with those before it.
use mathlib.Core.Path.{ap}
use native.Mathlib.Omega.{arith}
use lib.ListN.{length, length-take}
use Rattle.report.proofs.lines.Laws.{one_more}
use Rattle.report.proofs.lines.Lines.push.Goals as goal

pub invariant_of-self : goal.invariant_of-self
invariant_of-self c =
    let q = c.self.inside in
    let size = ap length c.self.view_is in
    one_more c.self.invariant c.args.line c.tallied-self-inside.ensures (omega (arith, length-take q.count q.held, size))
