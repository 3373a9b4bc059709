-- A place and the length of rows are small.
use Rattle.std.proofs.Common.{length}
use Rattle.frame.specs.Reader.{read_frame}
use Rattle.c_api.proofs.Small.{small_answer}
use Rattle.c_api.proofs.rakhubole_j1850_report.Goals as goal

pub report_word-requires : goal.report_word-requires
report_word-requires c =
    let a = c.args in
    small_answer a.supplement.now (read_frame a.first.now a.response.now) (length a.out.now) _ c.report.ensures.told
