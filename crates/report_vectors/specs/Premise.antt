-- That demand 3 needs the premise of document 02, K5: two supplements that break it, and a frame whose shown line changes.
use Rattle.std.specs.Prelude.{Some, ℕ, ◌≡◌, false, List, [], pos}
use Rattle.frame.specs.Frame.{Parts}
use Rattle.frame.specs.Refusal.{accepted}
use Rattle.frame.specs.Reader.{read_frame}
use Rattle.catalogue.specs.Supplement.{records_of, Accepted, Among, NoNewSelector}
use Rattle.report.specs.declared.line.Line.{Line}
use Rattle.report.specs.Line.{is_unknown}
use Rattle.report.specs.Rows.{row}
use Rattle.report.specs.Answer.{under}
use Rattle.report.specs.Demand.{Name, item, line_at, Keeps}
use Rattle.report_vectors.specs.BenchCases.{number, one_byte_selector, no_selector, short_frame}

-- What demand 3 asks of two supplements, but for the premise, and a line that the first shows and the second shows otherwise.
pub record Needed (first second run : List ℕ) (name : Name) (before after : Line) : Type 0 where
  pub accepted_first : Accepted first
  pub accepted_second : Accepted second
  pub among : Among first second
  pub broken : NoNewSelector (records_of first) (records_of second) → ⊥
  pub parts : Parts
  pub read : read_frame run [] ≡ accepted parts
  pub shown : line_at (under first parts) name ≡ Some before
  pub known : is_unknown before ≡ false
  pub otherwise : line_at (under second parts) name ≡ Some after
  pub differs : row before ≡ row after → ⊥
  pub not_kept : Keeps (under first parts) (under second parts) → ⊥

-- A layout for the selector 41h, and beside it length 0 for the same header with a layout of its own: 65h is shown as 101, then 41h as 65.
abbrev pub PremiseNeeded : Type 0
PremiseNeeded = Needed one_byte_selector no_selector short_frame (item 0 0) (number (pos 101) (pos 101) 1) (number (pos 65) (pos 65) 1)
