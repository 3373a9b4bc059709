-- All turns together copy the whole run.
use Rattle.std.proofs.Common.{◌≡◌, ℕ, ap, ◌∙◌, arith, length}
use lib.Seq.{paste}
use Rattle.frame.proofs.bytes.Placed.{pasted}
use Rattle.frame.proofs.bytes.put.Goals as goal

pub returns : goal.returns
returns c =
    let a = c.args in
    let all : c.loop-i.i ≡ length a.run.now = omega arith in
    c.loop-i.invariant ∙ ap (λ (n : ℕ). paste a.out.now 0 a.run.now n) all ∙ pasted a.out.now 0 a.run.now
