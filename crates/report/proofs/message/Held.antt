-- Every Number among the lines of a report is a fraction.
use mathlib.Core.List.{List, [], ◌∷◌, ◌++◌, map}
use Rattle.std.proofs.Common.{Option, None, Some}
use Prim.Native.Nat.{ℕ}
use lib.Dec.{eqb}
use Rattle.frame.specs.Bytes.{Bytes}
use Rattle.frame.specs.Response.{kind_data}
use Rattle.frame.proofs.bytes.Laws.{cases}
use Rattle.catalogue.specs.Record.{LayoutRow}
use Rattle.catalogue.specs.Supplement.{records_of, Good}
use Rattle.catalogue.specs.Lookup.{Catalogue, catalogue}
use Rattle.catalogue.proofs.supplement.Laws.{record_bytes}
use Rattle.report.specs.declared.line.Line.{Line}
use Rattle.report.specs.declared.spots.Place.{Place}
use Rattle.report.specs.declared.spots.Place.TheVariants.{Bit, Lost, Past}
use Rattle.report.specs.Report.{Part, Message, remainder_at, spots_in, group_of, group_lines, response_line, report_of, lines_of}
use Rattle.report.specs.Inner.{HoldsFraction, AllHold}
use Rattle.report.proofs.items.Laws.{AllScale, good_scale, all_append, all_items}

remainder_holds : (to : ℕ) (place : Place) → HoldsFraction (remainder_at to place)
unfolding remainder_at
remainder_holds to (Bit at) = tt
remainder_holds to Lost = tt
remainder_holds to Past = tt

response_holds : (kind : ℕ) → HoldsFraction (response_line kind)
unfolding response_line
response_holds kind = cases (eqb kind kind_data) (λ t. rw t tt) (λ f. rw f tt)

module _ (c : Catalogue) (d : AllScale c.slot) where
  group_holds : (o : Option LayoutRow) (p : Part) → AllHold ((group_of c o p).items ++ (group_of c o p).remainder ∷ [])
  unfolding group_of AllHold
  group_holds None p = (tt, tt)
  group_holds (Some l) p =
      let rest : Line = (group_of c (Some l) p).remainder in
      let last : AllHold (rest ∷ []) = (remainder_holds p.to _, tt) in
      all_append (group_of c (Some l) p).items (rest ∷ []) (all_items c.slot d p.bytes (spots_in c p l)) last

  groups_hold : (o : Option LayoutRow) (ps : List Part) → AllHold (group_lines (map (group_of c o) ps))
  unfolding group_lines AllHold
  groups_hold o [] = tt
  groups_hold o (p ∷ ps) =
      all_append ((group_of c o p).items ++ (group_of c o p).remainder ∷ []) (group_lines (map (group_of c o) ps)) (group_holds o p) (groups_hold o ps)

  report_holds : (m : Message) → AllHold (lines_of (report_of c m))
  unfolding lines_of report_of AllHold
  report_holds m =
      let last : AllHold (response_line m.kind ∷ []) = (response_holds m.kind, tt) in
      all_append (group_lines (map (group_of c (c.layout m.key)) m.parts)) (response_line m.kind ∷ []) (groups_hold _ m.parts) last

pub numbers_hold : (s : List ℕ) → Bytes s → Good (records_of s) → (m : Message) → AllHold (lines_of (report_of (catalogue s) m))
numbers_hold s b g m = report_holds (catalogue s) (good_scale (records_of s) g (record_bytes s b)) m
