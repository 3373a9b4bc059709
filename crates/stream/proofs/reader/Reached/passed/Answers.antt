use Rattle.std.proofs.Common.{arith}
use Rattle.stream.proofs.state.Laws.{at_position}
use Rattle.stream.proofs.reader.Laws.{stands_passed, passed_partial}
use Rattle.stream.proofs.reader.Reached.passed.Goals as goal

pub returns : goal.returns
returns c =
    let s = c.args.self.state in
    at_position (stands_passed s (omega arith) (omega arith) c.place_behind.ensures c.stopped_behind.ensures c.count_behind.ensures) (passed_partial _)
