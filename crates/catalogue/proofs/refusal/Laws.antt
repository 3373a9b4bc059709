-- Laws of refusals.
use mathlib.Core.Path.{◌≡◌}
use native.Mathlib.Omega.{arith}
use Rattle.frame.specs.Refusal.{no_refusal}
use Rattle.catalogue.specs.declared.refusal.Refusal.{Refusal}
use Rattle.catalogue.specs.declared.refusal.Refusal.TheVariants.{TooLong, UnknownKind, CutByEnd, OutsideRange, KeyRepeated, KeyInSae}
use Rattle.catalogue.specs.Refusal.{number_of}

-- No refusal has the number of none.
pub number_some : (r : Refusal) → number_of r ≡ no_refusal → ⊥
number_some TooLong e = omega arith
number_some UnknownKind e = omega arith
number_some CutByEnd e = omega arith
number_some OutsideRange e = omega arith
number_some KeyRepeated e = omega arith
number_some KeyInSae e = omega arith
