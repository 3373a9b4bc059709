-- Each test is its rule; a test that is passed leaves the rules after it.
use mathlib.Core.Path.{◌∙◌}
use mathlib.Core.List.{[]}
use native.Mathlib.Omega.{arith}
use Rattle.std.proofs.lemmas.Grind.{common_steps}
use Rattle.catalogue.proofs.supplement.Faults.{unknown_fault, cut_fault, range_fault, key_fits, key_full, repeated_fault, sae_fault, no_fault}
use Rattle.catalogue.proofs.supplement.fault_of.Goals as goal

pub returns-in_err-kind-clause-told : goal.returns-in_err-kind-clause-told
returns-in_err-kind-clause-told c = grind (arith, common_steps, unknown_fault)

pub returns-then-bytes-size-clause-told : goal.returns-then-bytes-size-clause-told
returns-then-bytes-size-clause-told c = cut_fault _ _ _ (c.in_ok-kind.ensures ∙ c.byte_at.ensures) c.size.ensures c.if-bytes-size.true

pub returns-then-not-in_range-clause-told : goal.returns-then-not-in_range-clause-told
returns-then-not-in_range-clause-told c =
    range_fault _ _ _ (c.in_ok-kind.ensures ∙ c.byte_at.ensures) c.size.ensures c.if-bytes-size.false c.if-not-in_range.ensures

pub slice_bounds-repeats-end : goal.slice_bounds-repeats-end
slice_bounds-repeats-end c =
    key_fits [] _ _ (c.in_ok-kind.ensures ∙ c.byte_at.ensures) c.size.ensures c.if-bytes-size.false c.key_size.ensures

pub repeats-requires-clause-full : goal.repeats-requires-clause-full
repeats-requires-clause-full c =
    key_full [] _ _ (c.in_ok-kind.ensures ∙ c.byte_at.ensures) c.size.ensures c.if-bytes-size.false c.key_size.ensures

pub returns-then-repeats-clause-told : goal.returns-then-repeats-clause-told
returns-then-repeats-clause-told c =
    repeated_fault _ _ _ (c.in_ok-kind.ensures ∙ c.byte_at.ensures) c.size.ensures c.if-bytes-size.false c.key_size.ensures c.if-not-in_range.ensures
    c.if-repeats.ensures.found

pub returns-then-in_sae-clause-told : goal.returns-then-in_sae-clause-told
returns-then-in_sae-clause-told c =
    sae_fault _ _ _ (c.in_ok-kind.ensures ∙ c.byte_at.ensures) c.size.ensures c.if-bytes-size.false c.key_size.ensures c.if-not-in_range.ensures
    c.if-repeats.ensures.found c.if-in_sae.ensures

pub returns-clause-told : goal.returns-clause-told
returns-clause-told c =
    no_fault _ _ _ (c.in_ok-kind.ensures ∙ c.byte_at.ensures) c.size.ensures c.if-bytes-size.false c.key_size.ensures c.if-not-in_range.ensures
    c.if-repeats.ensures.found c.if-in_sae.ensures
