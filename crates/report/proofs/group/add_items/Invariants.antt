-- After i turns the lines of the first i PRNs stand behind those that were there.
use Rattle.catalogue.specs.Lookup.{catalogue}
use Rattle.report.specs.Window.{part_in}
use Rattle.report.proofs.group.Laws.{Filled}
use Rattle.report.proofs.group.add_items.Given as goal

abbrev pub invariant-loop-prn : goal.invariant-loop-prn
invariant-loop-prn l = Filled (catalogue l.supplement.bytes.now) (part_in l.initial.window) l.initial.lines l.prns l.lines l.cursor l.prn-index
