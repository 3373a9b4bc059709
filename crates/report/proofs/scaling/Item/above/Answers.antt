-- The sum fits, whatever number of 32 bits is added.
use Rattle.std.proofs.Common.{arith}
use Rattle.report.proofs.scaling.Laws.{sum_fits}
use Rattle.report.proofs.scaling.Item.above.Goals as goal

pub overflow_add-result : goal.overflow_add-result
overflow_add-result c =
    let a = c.args.self in
    sum_fits a.slot a.raw a.some a.shown a.small (omega arith) (omega arith) _ _ c.number.ensures c.signed_of.ensures c.number.type_inv
    c.signed_of.type_inv
    (omega arith)
