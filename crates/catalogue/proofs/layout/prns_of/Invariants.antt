-- After i turns the first i PRNs stand in their places.
use Prim.Native.Nat.{◌≤◌}
use Rattle.catalogue.specs.Inner.{PrnsRead}
use Rattle.catalogue.proofs.layout.prns_of.Given as goal

abbrev pub invariant-loop-i : goal.invariant-loop-i
invariant-loop-i l = PrnsRead l.bytes l.prns l.i × (l.i ≤ l.count)
