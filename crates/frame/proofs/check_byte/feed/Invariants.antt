-- After k turns the register has made k steps.
use Rattle.std.proofs.Common.{◌≡◌, ◌≤◌}
use Rattle.frame.specs.CheckByte.{steps, byte_bits}
use Rattle.frame.proofs.check_byte.feed.Given as goal

abbrev pub invariant-loop : goal.invariant-loop
invariant-loop l = (l.s ≡ steps l.counter l.initial.s) × (l.counter ≤ byte_bits)
