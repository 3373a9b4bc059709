-- The bytes so far are the bits from the first byte on.
use Rattle.std.proofs.Common.{◌≡◌, ◌*◌, ◌-◌}
use Rattle.report.specs.Bits.{cut}
use Rattle.report.proofs.bits.cut_bits.Given as goal

abbrev pub invariant-loop-i : goal.invariant-loop-i
invariant-loop-i l = l.bytes ≡ cut l.s (8 * l.first) (8 * (l.i - l.first))
