-- The size is tested first; any filter serves.
use mathlib.Core.Path.{sym}
use Rattle.catalogue.proofs.supplement.Check.{check_over}
use Rattle.catalogue.proofs.supplement.check_supplement.Goals as goal

pub returns-then-s-gt-LARGEST : goal.returns-then-s-gt-LARGEST
returns-then-s-gt-LARGEST c = sym (check_over c.args.s.now c.if-s-gt-LARGEST.true)
