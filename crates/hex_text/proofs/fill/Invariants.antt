-- After i turns the first i bytes stand in their places.
use Rattle.std.proofs.Common.{◌≡◌, ◌++◌, drop}
use Rattle.hex_text.specs.Digits.{bytes_from}
use Rattle.hex_text.proofs.fill.Given as goal

abbrev pub invariant-loop-i : goal.invariant-loop-i
invariant-loop-i l = l.out ≡ bytes_from l.text l.i 0 ++ drop l.i l.initial.out
