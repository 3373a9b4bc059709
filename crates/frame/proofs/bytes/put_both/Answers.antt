-- The second run is placed right behind the first.
use Rattle.std.proofs.Common.{arith}
use Rattle.frame.proofs.bytes.Placed.{joined, tail_placed}
use Rattle.frame.proofs.bytes.put_both.Goals as goal

pub returns-clause-placed : goal.returns-clause-placed
returns-clause-placed c =
    let a = c.args in
    let behind = tail_placed _ _ a.back.now c.put-2.ensures in
    joined a.out.now 0 a.front.now a.back.now c.put.ensures behind (omega arith) (omega arith)
