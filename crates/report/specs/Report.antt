-- The report of a message: document 01, "The report"; document 02, K5.
use Rattle.std.specs.Prelude.{ℕ, ◌-◌, ◌*◌, ◌%◌, cond, List, [], ◌∷◌, ◌++◌, map, eqb, length, take, get_or, Option, None, Some}
use Rattle.frame.specs.Header.{bit_h}
use Rattle.frame.specs.Response.{kind_data, kind_number}
use Rattle.frame.specs.Frame.{Parts}
use Rattle.catalogue.specs.Record.{LayoutRow}
use Rattle.catalogue.specs.Lookup.{Catalogue, length_for, layout_key}
use Rattle.report.specs.declared.spots.Place.{Place}
use Rattle.report.specs.declared.spots.Place.TheVariants.{Bit, Lost, Past}
use Rattle.report.specs.declared.spots.Spot.{Spot}
use Rattle.report.specs.declared.line.Line.{Line}
use Rattle.report.specs.declared.line.Line.TheVariants.{Short, Unknown, Left, Answered}
use Rattle.report.specs.Line.{place_lost_reason, data_response_reason, no_layout_reason}
use Rattle.report.specs.Spots.{spots, place_after}
use Rattle.report.specs.Items.{item_line}
use Rattle.report.specs.Verdict.{verdict_of}

-- What a group of lines is read from: bytes, the bit where its items begin, the bit where they end, and its PRNs in the layout.
pub record Part : Type 0 where
  pub bytes : List ℕ
  pub from : ℕ
  pub to : ℕ
  pub prns : LayoutRow → List ℕ

-- What is reported, whatever the bus: the key under which the layout is sought, a part for each group, the response kind.
pub record Message : Type 0 where
  pub key : List ℕ
  pub parts : List Part
  pub kind : ℕ

-- "the frame's first byte (priority bits cleared if H = 0)"
unfoldable pub key_byte : List ℕ → ℕ
key_byte header = let b : ℕ = get_or header 0 0 in cond (eqb (bit_h b) 0) (b % 32) b

-- "the target (0 if H = 1)"
unfoldable pub key_target : List ℕ → ℕ
key_target header = cond (eqb (bit_h (get_or header 0 0)) 0) (get_or header 1 0) 0

-- As many data bytes as the selector's length for the header: "If the data are shorter than the length, the selector is what there is."
abbrev pub selector_of : Catalogue → List ℕ → List ℕ → List ℕ
selector_of c header body = take (length_for c (key_byte header) (key_target header)) body

-- "The layout sought"
abbrev pub sought_key : List ℕ → List ℕ → List ℕ
sought_key header selector = layout_key (key_byte header) (key_target header) selector

-- "The items follow the selector"
abbrev pub data_part : List ℕ → List ℕ → Part
data_part selector body = record { bytes = body; from = 8 * length selector; to = 8 * length body; prns = λ l. l.prns }

-- The message of a header, a selector, data and a response kind;
abbrev pub message_with : List ℕ → List ℕ → List ℕ → ℕ → Message
message_with header selector body kind = record { key = sought_key header selector; parts = data_part selector body ∷ []; kind = kind }

-- with the selector that the catalogue asks for; and so of a frame's parts.
abbrev pub message_from : Catalogue → List ℕ → List ℕ → ℕ → Message
message_from c header body kind = message_with header (selector_of c header body) body kind

abbrev pub message_of : Catalogue → Parts → Message
message_of c p = message_from c p.header p.body (kind_number p.kind)

-- A group: its part, the layout if there is one, its item lines and its remainder. A report is groups and the response.
pub record Group : Type 0 where
  pub part : Part
  pub layout : Option LayoutRow
  pub items : List Line
  pub remainder : Line

pub record Report : Type 0 where
  pub groups : List Group
  pub response : Line

-- "place lost, Unknown 2; a Short line, Short; else Left with the bits after the last item"
unfoldable pub remainder_at : ℕ → Place → Line
remainder_at to (Bit at) = Left (to - at)
remainder_at to Lost = Unknown place_lost_reason
remainder_at to Past = Short

-- The spots of a part's PRNs.
abbrev pub spots_in : Catalogue → Part → LayoutRow → List Spot
spots_in c p l = spots c.prn p.to (Bit p.from) (p.prns l)

-- "no layout, Unknown 8", and no item lines; else the lines of the part's PRNs and what they leave.
unfoldable pub group_of : Catalogue → Option LayoutRow → Part → Group
group_of c None p = record { part = p; layout = None; items = []; remainder = Unknown no_layout_reason }
group_of c (Some l) p =
    record {
      part = p;
      layout = Some l;
      items = map (item_line c.slot p.bytes) (spots_in c p l);
      remainder = remainder_at p.to (place_after (Bit p.from) (spots_in c p l));
    }

-- "Answered with kind 0, 1 or 2; kind 3, Unknown 7"
unfoldable pub response_line : ℕ → Line
response_line kind = cond (eqb kind kind_data) (Unknown data_response_reason) (Answered kind)

-- "A report uses the layout sought, if the supplement has it."
unfoldable pub report_of : Catalogue → Message → Report
report_of c m = record { groups = map (group_of c (c.layout m.key)) m.parts; response = response_line m.kind }

-- The report of a header, data and a response kind.
abbrev pub report_from : Catalogue → List ℕ → List ℕ → ℕ → Report
report_from c header body kind = report_of c (message_from c header body kind)

-- Every line that is shown: "item lines, then a remainder line, a response line".
unfoldable pub group_lines : List Group → List Line
group_lines [] = []
group_lines (g ∷ gs) = (g.items ++ g.remainder ∷ []) ++ group_lines gs

unfoldable pub lines_of : Report → List Line
lines_of r = group_lines r.groups ++ r.response ∷ []

unfoldable pub verdict : Report → ℕ
verdict r = verdict_of (lines_of r)
