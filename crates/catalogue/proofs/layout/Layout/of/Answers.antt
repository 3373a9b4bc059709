-- The count is at most sixteen, and so many PRNs are read.
use mathlib.Core.Path.{sym, subst}
use native.Mathlib.Omega.{arith}
use Rattle.catalogue.specs.Lookup.{UsedFirst}
use Rattle.catalogue.proofs.layout.Prns.{layout_read}
use Rattle.catalogue.proofs.layout.Used.{read_first}
use Rattle.catalogue.proofs.layout.Layout.of.Goals as goal

pub returns : goal.returns
returns c = layout_read _ (omega arith) c.prns_of-prns.ensures

pub invariant_of-result : goal.invariant_of-result
invariant_of-result c = subst (UsedFirst _) (sym c.prns_of-prns.ensures) (read_first _ _ (omega arith))
