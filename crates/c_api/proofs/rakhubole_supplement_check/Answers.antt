-- A place is at most 16,384, so that the answer holds it above the refusal.
use Rattle.std.proofs.Common.{ap, arith}
use Rattle.catalogue.specs.Supplement.{Checked}
use Rattle.catalogue.proofs.supplement.Check.{place_small}
use Rattle.c_api.proofs.rakhubole_supplement_check.Goals as goal

pub check_word-requires : goal.check_word-requires
check_word-requires c =
    let same = ap (λ (k : Checked). k.place) c.check_supplement.ensures in
    omega (arith, same, place_small c.args.supplement.now)
