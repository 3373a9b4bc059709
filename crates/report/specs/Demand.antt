-- Demand 3, sentence by sentence, for two reports of one frame.
use Rattle.std.specs.Prelude.{ℕ, ◌≡◌, ◌↔◌, ◌⊎◌, true, false, length, slice_get, Option, None, Some}
use Rattle.catalogue.specs.Record.{LayoutRow}
use Rattle.catalogue.specs.Lookup.{Catalogue}
use Rattle.report.specs.declared.line.Line.{Line}
use Rattle.report.specs.Line.{is_unknown}
use Rattle.report.specs.Verdict.{verdict_clear, verdict_flagged}
use Rattle.report.specs.Report.{Message, Group, Report, verdict}
use Rattle.report.specs.Rows.{row}

-- The name of a line: an item by its group and its number in the order of the layout's PRNs; a group's remainder; the response.
pub data Name : Type 0 where
  item : ℕ → ℕ → Name
  remainder : ℕ → Name
  response : Name

unfoldable pub item_in : Option Group → ℕ → Option Line
item_in None i = None
item_in (Some g) i = slice_get g.items i

unfoldable pub remainder_in : Option Group → Option Line
remainder_in None = None
remainder_in (Some g) = Some g.remainder

unfoldable pub layout_in : Option Group → Option LayoutRow
layout_in None = None
layout_in (Some g) = g.layout

-- The line of a name, if the report has it.
unfoldable pub line_at : Report → Name → Option Line
line_at r (item g i) = item_in (slice_get r.groups g) i
line_at r (remainder g) = remainder_in (slice_get r.groups g)
line_at r response = Some r.response

-- What may go missing, by name: "only item lines", where the report lacks the layout of their group.
unfoldable pub Lacks : Report → Name → Type 0
Lacks r (item g i) = layout_in (slice_get r.groups g) ≡ None
Lacks r (remainder g) = ⊥
Lacks r response = ⊥

-- A frame's messages under two catalogues: one message; or two, for neither of which the first catalogue has a layout.
pub record Neither (c : Catalogue) (m n : Message) : Type 0 where
  pub own : c.layout m.key ≡ None
  pub other : c.layout n.key ≡ None
  pub parts : length m.parts ≡ length n.parts
  pub kind : m.kind ≡ n.kind

abbrev pub Alike : Catalogue → Message → Message → Type 0
Alike c m n = (m ≡ n) ⊎ Neither c m n

-- The report under the first supplement and that under the second, the records of the first standing in the second, which has no new
-- selector length for a header of the first's layouts:
pub record Keeps (old new : Report) : Type 0 where
  -- "What the first shows as anything but Unknown is the same under the second;
  pub shown : (n : Name) (l : Line) → line_at old n ≡ Some l → is_unknown l ≡ false → line_at new n ≡ Some l
  -- Clear stays Clear,
  pub clear : verdict old ≡ verdict_clear → verdict new ≡ verdict_clear
  -- Flagged stays Flagged;
  pub flagged : verdict old ≡ verdict_flagged → verdict new ≡ verdict_flagged
  -- with records taken away, each line is the same or Unknown or missing,
  pub taken :
      (n : Name) (l : Line)
      → line_at new n ≡ Some l
      → (line_at old n ≡ Some l) ⊎ (((k : Line) × (line_at old n ≡ Some k) × (is_unknown k ≡ true)) ⊎ (line_at old n ≡ None))
  -- only item lines go missing, each exactly when the first supplement lacks the layout that the second report uses,
  pub missing : (n : Name) (l : Line) → line_at new n ≡ Some l → (line_at old n ≡ None) ↔ Lacks old n
  -- and no verdict becomes Clear."
  pub not_clear : (verdict new ≡ verdict_clear → ⊥) → verdict old ≡ verdict_clear → ⊥
  -- "two lines are the same if their rows below are equal byte for byte": so are those of what the first shows
  pub rows : (n : Name) (l k : Line) → line_at old n ≡ Some l → is_unknown l ≡ false → line_at new n ≡ Some k → row l ≡ row k
