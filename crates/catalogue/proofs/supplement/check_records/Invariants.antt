-- The test of the whole is the test from the present place on; what lies before is whole records, each with its bit in the filter.
use mathlib.Core.Path.{◌≡◌}
use lib.ListN.{length, drop}
use Rattle.catalogue.specs.Supplement.{records_of}
use Rattle.catalogue.specs.Inner.{Passed}
use Rattle.catalogue.proofs.supplement.check_records.Given as goal

abbrev pub invariant-loop-record : goal.invariant-loop-record
invariant-loop-record l = record {
  passed : Passed l.s l.filter l.at;
  left : records_of (drop l.at l.s) ≡ records_of l.record-iterator.rest.now;
  size : length l.filter ≡ length l.initial.filter;
}
