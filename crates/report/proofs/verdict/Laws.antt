-- Laws of the tests over lines.
use mathlib.Core.Path.{◌≡◌, refl, sym, ap, ◌∙◌}
use mathlib.Core.Logic.{⊎_elim}
use mathlib.Core.Bool.{Bool, true, ◌||◌, true≢false}
use mathlib.Core.List.Memᴰ
use mathlib.Core.List.{List, [], ◌∷◌, ◌++◌, Memᴰ}
use Rattle.frame.proofs.bytes.Laws.{cases}
use Rattle.report.specs.declared.line.Line.{Line}
use Rattle.report.specs.declared.tally.Tally.{Tally}
use Rattle.report.specs.Verdict.{any, verdict_by, verdict_of}
use Rattle.report.specs.Inner.{tally_of}

-- A test that holds for a line of the list, and the line that it holds for.
pub any_is : (p : Line → Bool) (ls : List Line) → any p ls ≡ true → (l : Line) × Memᴰ l ls × (p l ≡ true)
unfolding any
any_is p [] e = absurd (true≢false (sym e))
any_is p (l ∷ ls) e =
    cases (p l) (λ t. (l, Memᴰ.head refl, t))
    (λ f. let r = any_is p ls (sym (rw f) ∙ e) in (r.0, Memᴰ.tail r.1, r.2))

pub any_of : (p : Line → Bool) (ls : List Line) (l : Line) → Memᴰ l ls → p l ≡ true → any p ls ≡ true
unfolding any
any_of p [] l m e = absurd (Memᴰ.not-nil m)
any_of p (k ∷ ls) l m e =
    ⊎_elim (λ (h : l ≡ k). rw (ap p (sym h) ∙ e)) (λ (t : Memᴰ l ls). cases (p k) (λ g. rw g) (λ g. rw g (any_of p ls l t e)))
    (Memᴰ.cases_cons m)

-- One line more.
pub any_snoc : (p : Line → Bool) (ls : List Line) (l : Line) → any p (ls ++ l ∷ []) ≡ (any p ls || p l)
unfolding any
any_snoc p [] l = cases (p l) (λ t. rw t) (λ f. rw f)
any_snoc p (k ∷ ls) l = cases (p k) (λ t. rw t) (λ f. rw f (any_snoc p ls l))

-- The verdict of lines from their tally.
pub verdict_told : (ls : List Line) {t : Tally} → t ≡ tally_of ls → verdict_by t.flagged t.unknown ≡ verdict_of ls
unfolding verdict_of tally_of
verdict_told ls e = λ i. verdict_by (e i).flagged (e i).unknown
