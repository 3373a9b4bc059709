-- A place and the length of rows are small.
use Rattle.std.proofs.Common.{length}
use Rattle.frame.specs.Iso.{read_iso}
use Rattle.c_api.proofs.Small.{small_answer}
use Rattle.c_api.proofs.rakhubole_iso9141_report.Goals as goal

pub report_word-requires : goal.report_word-requires
report_word-requires c =
    let a = c.args in
    small_answer a.supplement.now (read_iso a.run.now) (length a.out.now) _ c.report.ensures.told
