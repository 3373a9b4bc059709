-- Laws of the report's answer, by case.
use mathlib.Core.Path.{◌≡◌, refl, sym, ap, ◌∙◌}
use mathlib.Core.Bool.{Bool, cond}
use mathlib.Core.List.{List, ◌++◌}
use Prim.Native.Nat.{ℕ, ◌+◌, ◌≤◌, ◌<◌}
use native.Mathlib.Omega.{arith}
use borrow.Author.Tests.{lt-ltb, le-ltb, eq-eqb, ne_eqb, eqb-true, eqb-false}
use lib.Dec.{eqb, ltb}
use Rattle.std.proofs.Common.{Err}
use lib.ListN.{length, length-append}
use Rattle.frame.specs.Frame.{Parts}
use Rattle.frame.specs.Refusal.{output_short, no_refusal, Outcome}
use Rattle.frame.specs.Refusal as frame
use Rattle.frame.proofs.bytes.Laws.{cases}
use Rattle.catalogue.specs.declared.refusal.Fault.{Fault}
use Rattle.catalogue.specs.Refusal as supplement
use Rattle.catalogue.specs.Supplement.{Checked, check, checked_of, Accepted}
use Rattle.catalogue.proofs.refusal.Laws.{number_some}
use Rattle.report.specs.declared.line.Line.{Line}
use Rattle.report.specs.declared.tally.Tally.{Tally}
use Rattle.report.specs.Verdict.{verdict_of}
use Rattle.report.specs.Report.{Report, lines_of, verdict}
use Rattle.report.specs.Rows.{byte_row_size, rows_of, verdict_row, report_bytes}
use Rattle.report.specs.Answer.{Answer, refused, shown, fitted, under, answer_of, report_answer, out_after, sized}
use Rattle.report.specs.Inner.{tally_of}

-- The rows of lines that are a report's, with their verdict.
pub rows_told : (ls : List Line) (q : Report) → ls ≡ lines_of q → rows_of ls ++ verdict_row (verdict_of ls) ≡ report_bytes q
unfolding report_bytes verdict
rows_told ls q e = λ i. rows_of (e i) ++ verdict_row (verdict_of (e i))

pub verdict_length : (rows : List ℕ) (v : ℕ) → length (rows ++ verdict_row v) ≡ length rows + byte_row_size
verdict_length rows v = length-append rows (verdict_row v)

-- How long they are, from the tally of the lines.
pub size_told_lem : (q : Report) {t : Tally} → t ≡ tally_of (lines_of q) → t.size + byte_row_size ≡ length (report_bytes q)
unfolding report_bytes tally_of
size_told_lem q e = ap (λ (t : Tally). t.size + byte_row_size) e ∙ sym (verdict_length (rows_of (lines_of q)) (verdict q))

-- An answer settles what is handed over and what is left in lent memory.
pub settled : (a b : Answer (List ℕ)) (out : List ℕ) → a ≡ b → (sized a ≡ sized b) × (out_after a out ≡ out_after b out)
settled a b out e = (ap sized e, ap (λ (x : Answer (List ℕ)). out_after x out) e)

-- Rows that do not fit lent output, and rows that do.
pub too_long_lem : (rows : List ℕ) (room : ℕ) → room < length rows → refused output_short 0 ≡ fitted room rows
unfolding fitted
too_long_lem rows room h = rw (lt-ltb room (length rows) h)

pub fits : (rows : List ℕ) (room : ℕ) → length rows ≤ room → shown rows ≡ fitted room rows
unfolding fitted
fits rows room h = rw (le-ltb room (length rows) h)

refused_shown : {n place : ℕ} {rows : List ℕ} → refused n place ≡ shown rows → ⊥
refused_shown e = let z : ◌≡◌ {A = ℕ} 0 1 = cc in omega arith

fitted_is : (room : ℕ) (rows shown-rows : List ℕ) → fitted room rows ≡ shown shown-rows → shown-rows ≡ rows
unfolding fitted
fitted_is room rows shown-rows e =
    cases (ltb room (length rows)) (λ t. absurd (refused_shown (rw t at e))) (λ f. let g : shown rows ≡ shown shown-rows = rw f at e in cc)

-- What rows that are shown tell.
pub record Told (s : List ℕ) (o : Outcome Parts) (rows : List ℕ) : Type 0 where
  pub supplement : Accepted s
  pub parts : Parts
  pub read : o ≡ frame.accepted parts
  pub told : rows ≡ report_bytes (under s parts)

-- The supplement, then the reading, then its rows.
module _ (s : List ℕ) (o : Outcome Parts) (room : ℕ) where
  pub supplement_refused : ((check s).refusal ≡ no_refusal → ⊥) → report_answer s o room ≡ refused (check s).refusal (check s).place
  unfolding report_answer
  supplement_refused e =
      ap (λ (t : Bool). cond t (answer_of s o room) (refused (check s).refusal (check s).place)) (ne_eqb (check s).refusal no_refusal e)

  pub accepted_supplement : Accepted s → report_answer s o room ≡ answer_of s o room
  unfolding report_answer
  accepted_supplement a = rw (eq-eqb (check s).refusal no_refusal a)

  -- Rows that are shown: the supplement and the frame are accepted, and the rows are those of the frame's parts.
  pub shown_is : (rows : List ℕ) → report_answer s o room ≡ shown rows → Told s o rows
  unfolding answer_of
  shown_is rows e =
      cases (eqb (check s).refusal no_refusal)
      (λ t. let a : Accepted s = eqb-true (check s).refusal no_refusal t in read_told o refl (sym (accepted_supplement a) ∙ e) a)
      (λ f. absurd (refused_shown (sym (supplement_refused (eqb-false (check s).refusal no_refusal f)) ∙ e)))
    where
      read_told : (p : Outcome Parts) → o ≡ p → answer_of s p room ≡ shown rows → Accepted s → Told s o rows
      read_told (frame.refused n) r g a = absurd (refused_shown g)
      read_told (frame.accepted p) r g a = record { supplement = a; parts = p; read = r; told = fitted_is room _ rows g }

-- A supplement's fault is told first.
pub fault_told :
    (s : List ℕ) (o : Outcome Parts) (room : ℕ) (f : Fault)
    → checked_of {A = Unit {0}} (Err f) ≡ check s
    → refused (supplement.number_of f.refusal) f.place ≡ report_answer s o room
fault_told s o room f e =
    let number = ap (λ (c : Checked). c.refusal) e in
    let place = ap (λ (c : Checked). c.place) e in
    (λ i. refused (number i) (place i)) ∙ sym (supplement_refused s o room (λ n. number_some f.refusal (number ∙ n)))
