-- No lines: each place is Short, and nothing adds up.
use mathlib.Core.Path.{refl, sym}
use native.Mathlib.Omega.{arith}
use Rattle.report.specs.Verdict.{any}
use Rattle.report.specs.Rows.{rows_of}
use Rattle.report.specs.Inner.{in_places, tally_of}
use Rattle.report.proofs.lines.Lines.new.Goals as goal

pub invariant_of-result : goal.invariant_of-result
unfolding in_places tally_of any rows_of
invariant_of-result c =
    let zero = c.default.ensures in
    record {
      most = omega arith;
      used = refl;
      rest = refl;
      sum = λ i. record { flagged = sym zero.0 i; unknown = sym zero.1.0 i; size = sym zero.1.1 i };
    }
