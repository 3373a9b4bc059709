-- How long the rows of a report are, and how large what the call hands over.
use mathlib.Core.Path.{◌≡◌, ap, ◌∙◌}
use mathlib.Core.List.{List, [], ◌∷◌, ◌++◌, map}
use Rattle.std.proofs.Common.{Option, None, Some}
use Prim.Native.Nat.{ℕ, ◌+◌, ◌*◌, ◌≤◌}
use native.Mathlib.Omega.{arith}
use borrow.Author.Tests.{le-ltb}
use lib.Dec.{eqb, ltb}
use lib.ListN.{length, length-append}
use Rattle.frame.specs.Frame.{Parts}
use Rattle.frame.specs.Refusal.{no_refusal, Outcome}
use Rattle.frame.specs.Response.{kind_data}
use Rattle.frame.specs.Refusal as frame
use Rattle.frame.proofs.bytes.Laws.{cases}
use Rattle.catalogue.specs.Record.{LayoutRow, most_prns}
use Rattle.catalogue.specs.Supplement.{records_of, largest_supplement, check}
use Rattle.catalogue.specs.Lookup.{Catalogue, catalogue}
use Rattle.catalogue.proofs.supplement.Check.{place_small}
use Rattle.catalogue.proofs.lookup.Laws.{layout_sixteen}
use Rattle.report.specs.declared.spots.Place.{Place}
use Rattle.report.specs.declared.spots.Place.TheVariants.{Bit, Lost, Past}
use Rattle.report.specs.declared.line.Line.{Line}
use Rattle.report.specs.Report.{Part, Message, message_of, remainder_at, group_of, group_lines, response_line, report_of, lines_of, verdict}
use Rattle.report.specs.Rows.{number_row_size, byte_row_size, rows_most, row, rows_of, report_bytes}
use Rattle.report.specs.Answer.{Answer, refused, shown, fitted, under, answer_of, report_answer, sized}
use Rattle.report.proofs.rows.Laws.{rows_append, rows_snoc, rows_length}
use Rattle.report.proofs.message.Laws.{items_most}
use Rattle.report.proofs.answer.Laws.{verdict_length}

remainder_row : (to : ℕ) (place : Place) → length (row (remainder_at to place)) ≤ byte_row_size
unfolding remainder_at row
remainder_row to (Bit at) = omega arith
remainder_row to Lost = omega arith
remainder_row to Past = omega arith

response_row : (kind : ℕ) → length (row (response_line kind)) ≤ byte_row_size
unfolding response_line row
response_row kind = cases (eqb kind kind_data) (λ t. rw t (omega arith)) (λ f. rw f (omega arith))

group_remainder : (c : Catalogue) (o : Option LayoutRow) (p : Part) → length (row (group_of c o p).remainder) ≤ byte_row_size
unfolding group_of row
group_remainder c None p = omega arith
group_remainder c (Some l) p = remainder_row p.to _

-- The bytes of a group at the most: at most sixteen items, none longer than a Number, and a remainder.
abbrev group_bytes : ℕ
group_bytes = number_row_size * most_prns + byte_row_size

module _ (c : Catalogue) (o : Option LayoutRow) where
  -- Every part has at most sixteen PRNs.
  abbrev Sixteen : List Part → Type 0
  Sixteen [] = Unit {0}
  Sixteen (p ∷ ps) = ((l : LayoutRow) → o ≡ Some l → length (p.prns l) ≤ most_prns) × Sixteen ps

  groups_most : (ps : List Part) → Sixteen ps → length (rows_of (group_lines (map (group_of c o) ps))) ≤ group_bytes * length ps
  unfolding group_lines rows_of
  groups_most [] h = omega arith
  groups_most (p ∷ ps) h =
      let items : List Line = (group_of c o p).items in
      let rest : List Line = group_lines (map (group_of c o) ps) in
      let lines : List Line = items ++ (group_of c o p).remainder ∷ [] in
      omega (
        arith,
        ap length (rows_append lines rest) ∙ length-append (rows_of lines) (rows_of rest),
        rows_snoc items (group_of c o p).remainder,
        rows_length items,
        items_most c o p most_prns h.0,
        group_remainder c o p,
        groups_most ps h.1,
      )

-- "up to sixteen item lines, then a remainder line, a response line and the verdict": the rows of any report are at most 310 bytes long,
-- for it has one group,
pub rows_most_lem : (s : List ℕ) (p : Parts) → length (report_bytes (under s p)) ≤ rows_most
unfolding report_bytes report_of lines_of
rows_most_lem s p =
    let m : Message = message_of (catalogue s) p in
    let o : Option LayoutRow = (catalogue s).layout m.key in
    let groups : List Line = group_lines (map (group_of (catalogue s) o) m.parts) in
    omega (
      arith,
      verdict_length (rows_of (groups ++ response_line m.kind ∷ [])) (verdict (under s p)),
      rows_snoc groups (response_line m.kind),
      response_row m.kind,
      groups_most (catalogue s) o m.parts (λ l e. layout_sixteen (records_of s) m.key l e, tt),
    )

-- and so much lent output is always enough.
pub rows_fit : (s : List ℕ) (p : Parts) (room : ℕ) → rows_most ≤ room → answer_of s (frame.accepted p) room ≡ shown (report_bytes (under s p))
unfolding answer_of fitted
rows_fit s p room h = rw (le-ltb room (length (report_bytes (under s p))) (omega (arith, rows_most_lem s p)))

-- What is handed over is small: a place within a supplement, or the length of such rows.
abbrev Small : Answer (List ℕ) → Type 0
Small (refused n place) = place ≤ largest_supplement
Small (shown rows) = length rows ≤ rows_most

fitted_small : (room : ℕ) (rows : List ℕ) → length rows ≤ rows_most → Small (fitted room rows)
unfolding fitted
fitted_small room rows h = cases (ltb room (length rows)) (λ t. rw t (omega arith)) (λ f. rw f h)

read_small : (s : List ℕ) (o : Outcome Parts) (room : ℕ) → Small (answer_of s o room)
unfolding answer_of
read_small s (frame.refused n) room = omega arith
read_small s (frame.accepted p) room = fitted_small room _ (rows_most_lem s p)

answer_small : (s : List ℕ) (o : Outcome Parts) (room : ℕ) → Small (report_answer s o room)
unfolding report_answer
answer_small s o room = cases (eqb (check s).refusal no_refusal) (λ t. rw t (read_small s o room)) (λ f. rw f (place_small s))

place_of : (a : Answer (List ℕ)) (n place : ℕ) → Small a → refused n place ≡ sized a → place ≤ largest_supplement
place_of (refused m q) n place h e = let same : place ≡ q = cc in omega arith
place_of (shown rows) n place h e = absurd (let z : ◌≡◌ {A = ℕ} 0 1 = cc in omega arith)

size_of : (a : Answer (List ℕ)) (size : ℕ) → Small a → shown size ≡ sized a → size ≤ rows_most
size_of (refused m q) size h e = absurd (let z : ◌≡◌ {A = ℕ} 0 1 = cc in omega arith)
size_of (shown rows) size h e = let same : size ≡ length rows = cc in omega arith

module _ (s : List ℕ) (o : Outcome Parts) (room : ℕ) where
  pub place_within : (n place : ℕ) → refused n place ≡ sized (report_answer s o room) → place ≤ largest_supplement
  place_within n place e = place_of (report_answer s o room) n place (answer_small s o room) e

  pub size_within : (size : ℕ) → shown size ≡ sized (report_answer s o room) → size ≤ rows_most
  size_within size e = size_of (report_answer s o room) size (answer_small s o room) e
