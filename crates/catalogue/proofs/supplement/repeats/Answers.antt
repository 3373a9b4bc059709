-- A bit that was not set says that the key is new; where it was set the search answers.
use mathlib.Core.Path.{sym, ◌∙◌}
use Rattle.catalogue.proofs.filter.Laws.{covers_more, surely_new}
use Rattle.catalogue.proofs.supplement.repeats.Goals as goal

pub returns-then-mark-clause-covered : goal.returns-then-mark-clause-covered
returns-then-mark-clause-covered c r e = covers_more _ _ _ r (rw (← e) at c.mark.ensures) c.requires.covered

pub returns-else-mark-clause-found : goal.returns-else-mark-clause-found
returns-else-mark-clause-found c = c.if-mark.false ∙ sym (surely_new c.requires.full c.mark.ensures c.requires.covered c.if-mark.false)

pub returns-else-mark-clause-covered : goal.returns-else-mark-clause-covered
returns-else-mark-clause-covered c r e = covers_more _ _ _ r (rw (← e) at c.mark.ensures) c.requires.covered
