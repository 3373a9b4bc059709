-- An even place holds a byte's high digit, an odd one its low digit.
use mathlib.Core.Path.{◌≡◌, sym, ap, ◌∙◌}
use Prim.Native.Nat.{ℕ, ◌+◌, ◌*◌, ◌/◌}
use native.Mathlib.Omega.{arith}
use lib.ListN.{get_or}
use Rattle.hex_text.specs.Digits.{text_of}
use Rattle.hex_text.proofs.digits.Text.{high_digit, low_digit}
use Rattle.hex_text.proofs.text_at.Goals as goal

pub returns-then-at-eq0 : goal.returns-then-at-eq0
returns-then-at-eq0 c =
    let a = c.args in
    let e : 2 * (a.at / 2) ≡ a.at = omega arith in
    c.last_digit.ensures
    ∙ sym (high_digit a.bytes.now (a.at / 2) c.requires)
    ∙ ap (λ (i : ℕ). get_or (text_of a.bytes.now) i 0) e

pub returns-else-at-eq0 : goal.returns-else-at-eq0
returns-else-at-eq0 c =
    let a = c.args in
    let e : 2 * (a.at / 2) + 1 ≡ a.at = omega arith in
    c.last_digit-else-at-eq0.ensures
    ∙ sym (low_digit a.bytes.now (a.at / 2) c.requires)
    ∙ ap (λ (i : ℕ). get_or (text_of a.bytes.now) i 0) e
