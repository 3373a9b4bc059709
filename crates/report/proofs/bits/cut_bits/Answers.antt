-- An item needs five bytes at the most, so that four stand before the last.
use Rattle.std.proofs.Common.{◌-◌, ◌*◌, ◌/◌, ◌≤◌, arith}
use Rattle.report.proofs.bits.Laws.{cut_below}
use Rattle.report.proofs.bits.cut_bits.Goals as goal

pub overflow_mul-bytes : goal.overflow_mul-bytes
overflow_mul-bytes c =
    let f = c.args.at / 8 in
    let most : 8 * (c.loop-i.i - f) ≤ 32 = omega (arith, c.div_ceil-last.ensures) in
    omega (arith, cut_below c.args.s.now (8 * f) _ 32 most)

pub overflow_add-bytes : goal.overflow_add-bytes
overflow_add-bytes c =
    let f = c.args.at / 8 in
    let most : 8 * (c.loop-i.i - f) ≤ 32 = omega (arith, c.div_ceil-last.ensures) in
    omega (arith, cut_below c.args.s.now (8 * f) _ 32 most)
