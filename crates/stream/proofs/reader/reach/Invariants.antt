-- Byte by byte, from a state with no whole record; the end moves only where the loop ends.
use Rattle.std.proofs.Common.{◌≡◌}
use Rattle.stream.specs.Inner.{standing}
use Rattle.stream.proofs.reader.Going.{OnTheWay}
use Rattle.stream.proofs.reader.reach.Given as goal

abbrev pub invariant-loop-i : goal.invariant-loop-i
invariant-loop-i l = OnTheWay (standing l.initial.state) l.part l.state l.i l.taken × (l.taken ≡ l.initial.taken)
