-- After so many turns the first so many characters stand in their places.
use Rattle.std.proofs.Common.{◌≡◌, ◌++◌, take, drop}
use Rattle.hex_text.specs.Digits.{text_of}
use Rattle.hex_text.proofs.write_text.Given as goal

abbrev pub invariant-loop-at : goal.invariant-loop-at
invariant-loop-at l = l.part ≡ take l.at (text_of l.bytes) ++ drop l.at l.initial.part
