-- The refusals of a report, as numbers and places: document 01, "A refusal returns its number, and for 10 to 15 a place".
use Rattle.std.specs.Prelude.{ℕ}
use Rattle.frame.specs.Refusal as frame
use Rattle.catalogue.specs.Refusal as catalogue
use Rattle.report.specs.declared.refusal.Refusal.{Refusal}
use Rattle.report.specs.declared.refusal.Refusal.TheVariants.{Supplement, Frame}

abbrev pub number_of : Refusal → ℕ
number_of (Supplement f) = catalogue.number_of f.refusal
number_of (Frame r) = frame.number_of r

abbrev pub place_of : Refusal → ℕ
place_of (Supplement f) = f.place
place_of (Frame r) = 0
