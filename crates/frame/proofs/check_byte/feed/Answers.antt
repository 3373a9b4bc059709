use Rattle.std.proofs.Common.{refl, ap, ◌∙◌, ℕ, arith, bit_xor, add-one}
use Rattle.frame.specs.CheckByte.{step, steps, feed}
use Rattle.frame.proofs.check_byte.feed.Goals as goal

pub loop-init : goal.loop-init
unfolding steps
loop-init c = (refl, omega arith)

pub loop-preserved : goal.loop-preserved
unfolding steps
loop-preserved c = (rw add-one (c.step-s.ensures ∙ ap step c.before.before.loop.invariant.0), omega arith)

pub returns : goal.returns
unfolding feed
returns c =
    let a = c.args in
    c.loop.invariant.0 ∙ ap (λ (n : ℕ). steps n (bit_xor a.r a.b)) (omega arith)
