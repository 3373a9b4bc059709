-- The verdict of every report, from the lines that it shows.
use mathlib.Core.Path.{◌≡◌, refl, sym, ap, ◌∙◌}
use mathlib.Core.Logic.{◌↔◌, inl, inr}
use mathlib.Core.Bool.{Bool, true, false, not, true≢false}
use mathlib.Core.List.{List, Memᴰ}
use Prim.Native.Nat.{ℕ}
use native.Mathlib.Omega.{arith}
use borrow.Author.Tests.{eq-eqb, ne_eqb}
use Rattle.report.specs.declared.line.Line.{Line}
use Rattle.report.specs.declared.line.Line.TheVariants.{Number, State, Bits, Text, Digits, Invalid, Short, Unknown, Left, Answered}
use Rattle.report.specs.Line.{is_flagged, is_unknown}
use Rattle.report.specs.Verdict.{verdict_clear, verdict_flagged, verdict_unknown, any, verdict_by, verdict_of}
use Rattle.report.specs.Report.{Report, lines_of, verdict}
use Rattle.report.specs.Judged.{ShowsFlagged, ShowsUnknown, Judged}
use Rattle.report.proofs.verdict.Laws.{any_is, any_of}

-- The two tests say just that.
flagged_shown : (ls : List Line) (l : Line) → Memᴰ l ls → is_flagged l ≡ true → ShowsFlagged ls
flagged_shown ls (Number x n d) m e = absurd (true≢false (sym e))
flagged_shown ls (State n) m e = absurd (true≢false (sym e))
flagged_shown ls (Bits n) m e = absurd (true≢false (sym e))
flagged_shown ls (Text n) m e = absurd (true≢false (sym e))
flagged_shown ls (Digits n) m e = absurd (true≢false (sym e))
flagged_shown ls (Invalid n) m e = inl (n, m)
flagged_shown ls Short m e = inr (inl m)
flagged_shown ls (Unknown n) m e = absurd (true≢false (sym e))
flagged_shown ls (Left n) m e = inr (inr (n, m, λ z. true≢false (sym e ∙ ap not (eq-eqb n 0 z))))
flagged_shown ls (Answered n) m e = absurd (true≢false (sym e))

any_flagged : (ls : List Line) → ShowsFlagged ls → any is_flagged ls ≡ true
any_flagged ls (inl s) = any_of is_flagged ls (Invalid s.0) s.1 refl
any_flagged ls (inr (inl m)) = any_of is_flagged ls Short m refl
any_flagged ls (inr (inr s)) = any_of is_flagged ls (Left s.0) s.1 (ap not (ne_eqb s.0 0 s.2))

unknown_shown : (ls : List Line) (l : Line) → Memᴰ l ls → is_unknown l ≡ true → ShowsUnknown ls
unknown_shown ls (Number x n d) m e = absurd (true≢false (sym e))
unknown_shown ls (State n) m e = absurd (true≢false (sym e))
unknown_shown ls (Bits n) m e = absurd (true≢false (sym e))
unknown_shown ls (Text n) m e = absurd (true≢false (sym e))
unknown_shown ls (Digits n) m e = absurd (true≢false (sym e))
unknown_shown ls (Invalid n) m e = absurd (true≢false (sym e))
unknown_shown ls Short m e = absurd (true≢false (sym e))
unknown_shown ls (Unknown n) m e = (n, m)
unknown_shown ls (Left n) m e = absurd (true≢false (sym e))
unknown_shown ls (Answered n) m e = absurd (true≢false (sym e))

-- A number by two tests, from what each test says.
by_tests :
    (f u : Bool) {F U : Type 0} (p : (f ≡ true) ↔ F) (q : (u ≡ true) ↔ U)
    → let v : ℕ = verdict_by f u in
    ((v ≡ verdict_flagged) ↔ F) × ((v ≡ verdict_unknown) ↔ ((F → ⊥) × U)) × ((v ≡ verdict_clear) ↔ ((F → ⊥) × (U → ⊥)))
by_tests true u p q = (
  (λ e. p.0 refl, λ x. refl),
  (λ e. absurd (omega arith), λ x. absurd (x.0 (p.0 refl))),
  (λ e. absurd (omega arith), λ x. absurd (x.0 (p.0 refl))),
)
by_tests false true p q = (
  (λ e. absurd (omega arith), λ x. absurd (true≢false (sym (p.1 x)))),
  (λ e. (λ x. true≢false (sym (p.1 x)), q.0 refl), λ x. refl),
  (λ e. absurd (omega arith), λ x. absurd (x.1 (q.0 refl))),
)
by_tests false false p q = (
  (λ e. absurd (omega arith), λ x. absurd (true≢false (sym (p.1 x)))),
  (λ e. absurd (omega arith), λ x. absurd (true≢false (sym (q.1 x.1)))),
  (λ e. (λ x. true≢false (sym (p.1 x)), λ x. true≢false (sym (q.1 x))), λ x. refl),
)

-- "Verdict: Flagged (2) if a line is Invalid or Short or Left is not 0; otherwise Unknown (3) if a line is Unknown; otherwise Clear (1)."
pub judged : (r : Report) → Judged r
unfolding verdict verdict_of
judged r =
    let ls : List Line = lines_of r in
    let told =
    by_tests (any is_flagged ls) (any is_unknown ls)
    (λ e. let s = any_is is_flagged ls e in flagged_shown ls s.0 s.1 s.2, any_flagged ls) (
      λ e. let s = any_is is_unknown ls e in unknown_shown ls s.0 s.1 s.2,
      λ s. any_of is_unknown ls (Unknown s.0) s.1 refl,
    ) in
    record { flagged = told.0; unknown = told.1; clear = told.2 }
