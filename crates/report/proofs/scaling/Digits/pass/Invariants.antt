-- After each turn what is left is the digits that are still to be tested.
use Rattle.std.proofs.Common.{◌≡◌, ℕ, ◌-◌, ◌&&◌, leb}
use Rattle.report.specs.Scaling.{digits_pass}
use Rattle.report.proofs.scaling.Digits.pass.Given as goal

abbrev pub invariant-loop : goal.invariant-loop
invariant-loop l =
    digits_pass (λ (d : ℕ). leb l.self.low d && leb d l.self.high) l.self.size l.n l.raw
    ≡ digits_pass (λ (d : ℕ). leb l.self.low d && leb d l.self.high) l.self.size (l.n - l.counter) l.rest
