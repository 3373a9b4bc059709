-- The part of a message that a window is.
use Rattle.report.specs.declared.window.Window.{Window}
use Rattle.report.specs.Report.{Part}

abbrev pub part_in : Window → Part
part_in w = record { bytes = w.bytes.now; from = w.from; to = w.to; prns = λ l. l.prns }
