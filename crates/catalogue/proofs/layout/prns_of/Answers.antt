-- All are read where as many are as the count says.
use mathlib.Core.Path.{◌≡◌, ap, ◌∙◌}
use Prim.Native.Nat.{ℕ}
use native.Mathlib.Omega.{arith}
use Rattle.catalogue.specs.Lookup.{prns_used}
use Rattle.catalogue.proofs.layout.Prns.{all_read}
use Rattle.catalogue.proofs.layout.prns_of.Goals as goal

pub returns : goal.returns
returns c =
    let all : c.loop-i.i ≡ c.args.count = omega arith in
    all_read _ c.loop-i.invariant.0 ∙ ap (λ (n : ℕ). prns_used n c.args.bytes.now) all
