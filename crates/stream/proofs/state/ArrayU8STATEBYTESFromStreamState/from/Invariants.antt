-- After i turns the first i places behind the head hold the bytes held, as many as there are.
use Rattle.std.proofs.Common.{◌≡◌, min}
use lib.Seq.{paste}
use Rattle.stream.specs.State.{held_place}
use Rattle.stream.proofs.state.ArrayU8STATEBYTESFromStreamState.from.Given as goal

abbrev pub invariant-loop-i : goal.invariant-loop-i
invariant-loop-i l = l.bytes ≡ paste l.initial.bytes held_place l.byte-items (min l.i l.count)
