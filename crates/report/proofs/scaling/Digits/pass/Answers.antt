-- After each turn what is left is the digits that are still to be tested.
use Rattle.std.proofs.Common.{sym, ◌∙◌}
use Rattle.report.proofs.scaling.Laws.{in_range, out_of_range, digit_size, digits_next, digits_broken, digits_passed}
use Rattle.report.proofs.scaling.Digits.pass.Goals as goal

pub returns-then-digit-self : goal.returns-then-digit-self
returns-then-digit-self c =
    let a = c.args in
    let l = c.loop in
    let size = digit_size a.self.size a.self.fit in
    let out = rw size at c.then-digit-self.either in
    sym (l.invariant ∙ digits_broken _ a.self.size a.n l.counter l.rest c.loop-test.true (out_of_range a.self.low a.self.high _ out))

pub loop-preserved : goal.loop-preserved
loop-preserved c =
    let a = c.args in
    let l = c.loop in
    let size = digit_size a.self.size a.self.fit in
    let low = rw size at c.if-digit-self.false in
    let high = rw size at c.if-self-digit.false in
    l.invariant ∙ digits_next _ a.self.size a.n l.counter l.rest c.loop-test.true (in_range a.self.low a.self.high _ low high)

pub returns : goal.returns
returns c =
    let a = c.args in
    let l = c.loop in
    sym (l.invariant ∙ digits_passed _ a.self.size a.n l.counter l.rest c.loop-test.false)
