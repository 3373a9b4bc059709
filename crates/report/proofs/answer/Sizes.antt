-- The sizes of the parts, as C is told them, tell the same report as the parts.
use mathlib.Core.Path.{◌≡◌, refl, sym, ap, ◌∙◌}
use mathlib.Core.Bool.{cond}
use mathlib.Core.List.{List}
use Prim.Native.Nat.{ℕ}
use native.Mathlib.Omega.{arith}
use borrow.Author.Tests.{eq-eqb, ne_eqb}
use lib.Dec.{eqb}
use Rattle.frame.specs.Frame.{Parts, Sizes, sizes, Handed}
use Rattle.frame.specs.Response.{kind_number}
use Rattle.frame.specs.Refusal.{no_refusal, Outcome}
use Rattle.frame.specs.Refusal as frame
use Rattle.frame.proofs.frame.Laws.{sizes_handed}
use Rattle.catalogue.specs.Supplement.{check, Accepted}
use Rattle.catalogue.specs.Lookup.{catalogue}
use Rattle.report.specs.Report.{report_from}
use Rattle.report.specs.Rows.{report_bytes}
use Rattle.report.specs.Answer.{Answer, refused, fitted, answer_of, report_answer}
use Rattle.report.specs.Sizes.{Cuts, cut_answer, sizes_answer}

-- The supplement, then what the sizes cut out.
module _ (s run : List ℕ) (room : ℕ) where
  pub sizes_supplement_refused :
      (o : Outcome Sizes) → ((check s).refusal ≡ no_refusal → ⊥) → sizes_answer s run o room ≡ refused (check s).refusal (check s).place
  unfolding sizes_answer
  sizes_supplement_refused o e = rw (ne_eqb (check s).refusal no_refusal e)

  pub sizes_supplement_accepted : (o : Outcome Sizes) → Accepted s → sizes_answer s run o room ≡ cut_answer s run o room
  unfolding sizes_answer
  sizes_supplement_accepted o a = rw (eq-eqb (check s).refusal no_refusal a)

-- A reader of any bus, whose parts lie within a run and the response behind it.
module _ (run response : List ℕ) (o : Outcome Parts) (hands : (p : Parts) → o ≡ frame.accepted p → Handed run response p) where
  -- Its sizes cut the parts out of the run ..
  pub sizes_cut : (q : Outcome Sizes) → q ≡ sizes o → Cuts run q
  sizes_cut (frame.refused n) e = tt
  sizes_cut (frame.accepted z) e =
      let h = sizes_handed run response o hands z (sym e) in (omega (arith, h.0), omega (arith, h.2))

  -- .. and so the answer for the sizes is the answer for the parts.
  cut_same : (s : List ℕ) (room : ℕ) (p : Outcome Parts) → o ≡ p → cut_answer s run (sizes p) room ≡ answer_of s p room
  unfolding cut_answer answer_of
  cut_same s room (frame.refused n) e = refl
  cut_same s room (frame.accepted p) e =
      let h = hands p e in
      λ i. fitted room (report_bytes (report_from (catalogue s) (sym h.header i) (sym h.body i) (kind_number p.kind)))

  pub sizes_answer_lem : (s : List ℕ) (room : ℕ) (q : Outcome Sizes) → q ≡ sizes o → sizes_answer s run q room ≡ report_answer s o room
  unfolding sizes_answer report_answer
  sizes_answer_lem s room q e =
      ap (λ (a : Answer (List ℕ)). cond (eqb (check s).refusal no_refusal) a (refused (check s).refusal (check s).place))
      (ap (λ (z : Outcome Sizes). cut_answer s run z room) e ∙ cut_same s room o refl)
