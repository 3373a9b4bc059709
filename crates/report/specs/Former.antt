-- The report as it was before selectors had lengths: document 01, "The report". Only laws speak of it.
use Rattle.std.specs.Prelude.{ℕ, ◌*◌, ◌≡◌, cond, eqb, length, get_or}
use mathlib.Core.List.{List, [], ◌∷◌, map, Memᴰ}
use Rattle.frame.specs.Response.{kind_number}
use Rattle.frame.specs.Frame.{Parts}
use Rattle.catalogue.specs.Kind.{layout_kind}
use Rattle.catalogue.specs.Record.{record_kind}
use Rattle.catalogue.specs.Supplement.{records_of}
use Rattle.catalogue.specs.Former.{former_key, FormerLayout, grown, former_catalogue}
use Rattle.report.specs.Report.{Part, Message, Report, key_byte, key_target, report_of}
use Rattle.report.specs.Answer.{under}

-- "the first data byte as selector, absent if there are no data": whether there is one, 1 or 0.
unfoldable pub present : List ℕ → ℕ
present body = cond (eqb (length body) 0) 0 1

-- "The items follow the selector"
abbrev pub former_part : List ℕ → Part
former_part body = record { bytes = body; from = 8 * present body; to = 8 * length body; prns = λ l. l.prns }

-- "The layout sought"
abbrev pub former_message : Parts → Message
former_message p =
    record {
      key = former_key (key_byte p.header) (key_target p.header) (present p.body) (get_or p.body 0 0);
      parts = former_part p.body ∷ [];
      kind = kind_number p.kind;
    }

-- The report of a frame's parts under records of the former form.
abbrev pub former_report : List (List ℕ) → Parts → Report
former_report rs p = report_of (former_catalogue rs) (former_message p)

-- A supplement has former records, layouts of the former form among them, each of these with its zero, and shows of every frame what
-- document 01's rules showed.
pub record ShowsAsBefore (s : List ℕ) : Type 0 where
  pub former : List (List ℕ)
  pub forms : (l : List ℕ) → Memᴰ l former → record_kind l ≡ layout_kind → FormerLayout l
  pub records : records_of s ≡ map grown former
  pub same : (p : Parts) → under s p ≡ former_report former p
