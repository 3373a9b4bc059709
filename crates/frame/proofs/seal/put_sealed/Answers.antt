-- Header and data are placed one behind the other, and the check byte seals them.
use Rattle.std.proofs.Common.{refl, ◌++◌, arith, length-append}
use Rattle.frame.proofs.seal.Laws.{length_sealed, sealed_behind}
use Rattle.frame.proofs.seal.put_sealed.Goals as goal

pub returns : goal.returns
returns g c =
    let a = c.args in
    let check = g.C.Check.check in
    let both = a.header.now ++ a.body.now in
    let size = length-append a.header.now a.body.now in
    let told = c.put_both-end.ensures in
    record {
      placed = sealed_behind check a.out.now 0 both told.placed c.seal.ensures refl (omega (arith, told.size)) (omega (arith, size));
      size = omega (arith, told.size, length_sealed check both);
    }
