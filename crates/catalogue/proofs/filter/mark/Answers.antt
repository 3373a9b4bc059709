-- The word of the bit takes it in; a filter of no words stays as it is.
use Rattle.catalogue.proofs.filter.Laws.{marks_none, marks_within}
use Rattle.catalogue.proofs.filter.mark.Goals as goal

pub returns-then-filter-eq0 : goal.returns-then-filter-eq0
returns-then-filter-eq0 c = marks_none c.args.filter.now c.args.key.now c.if-filter-eq0.true

pub returns : goal.returns
returns c = marks_within c.args.filter.now c.bit_of-bit.result c.if-filter-eq0.false c.args.key.now c.bit_of-bit.ensures
