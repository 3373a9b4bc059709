-- The test of the whole is the test from the present place on; what lies before is whole records, each with its bit in the filter.
use mathlib.Core.Path.{refl, sym, ap, ◌∙◌}
use Rattle.catalogue.specs.declared.records.Records.{Records}
use Rattle.catalogue.specs.Supplement.{records_of}
use Rattle.catalogue.proofs.refusal.Laws.{number_some}
use Rattle.catalogue.proofs.supplement.Passed.{none_passed, one_passed, all_passed, behind, faulty}
use Rattle.catalogue.proofs.supplement.check_records.Goals as goal

pub loop-record-init : goal.loop-record-init
loop-record-init c = record {
  passed = none_passed c.args.s.now c.args.filter.now c.requires;
  left = ap records_of (sym c.of-record-items.ensures) ∙ ap (λ (r : Records). records_of r.rest.now) (sym c.into_iter-record-iterator.ensures.into_iter_gives);
  size = refl;
}

pub returns-in-Err : goal.returns-in-Err
returns-in-Err c =
    faulty _ c.loop-record.invariant.passed (c.loop-record.invariant.left ∙ c.in-Some.ensures.steps) c.in-Err.ensures.told (number_some c.in-Err.refusal)

pub loop-record-preserved : goal.loop-record-preserved
loop-record-preserved c =
    let passed = c.loop-record.invariant.passed in
    let next = c.loop-record.invariant.left ∙ c.in-Some.ensures.steps in
    record {
      passed = one_passed _ passed next c.in_default.ensures.told _ refl c.in_default.ensures.covered;
      left = sym (behind _ passed next c.in_default.ensures.told);
      size = c.fault_of.auto.filter ∙ c.loop-record.invariant.size;
    }

pub returns : goal.returns
returns c = all_passed _ c.loop-record.invariant.passed (c.loop-record.invariant.left ∙ c.in-None.ensures.steps.0)
