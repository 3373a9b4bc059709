-- What lines that are the same or Unknown do to the verdict.
use mathlib.Core.Path.{◌≡◌, refl, sym, ap, ◌∙◌, subst}
use mathlib.Core.Logic.{◌⊎◌, inl, inr, ⊎_elim}
use mathlib.Core.Bool.{true, false, ◌||◌, true≢false}
use mathlib.Core.List.{List, [], ◌∷◌, ◌++◌, Memᴰ}
use Prim.Native.Nat.{ℕ}
use native.Mathlib.Omega.{arith}
use Rattle.frame.proofs.bytes.Laws.{cases}
use Rattle.report.specs.declared.line.Line.{Line}
use Rattle.report.specs.declared.line.Line.TheVariants.{Number, State, Bits, Text, Digits, Invalid, Short, Unknown, Left, Answered}
use Rattle.report.specs.Line.{is_flagged, is_unknown}
use Rattle.report.specs.Verdict.{verdict_clear, verdict_flagged, verdict_unknown, any, verdict_of}
use Rattle.report.specs.Report.{Group, group_lines}
use Rattle.report.proofs.verdict.Laws.{any_is, any_of}
use Rattle.report.proofs.demand.Kept.{AllWith, Kept, GroupKept}

-- A line that flags is not Unknown.
pub flagged_known : (l : Line) → is_flagged l ≡ true → is_unknown l ≡ false
flagged_known (Number x n d) e = refl
flagged_known (State n) e = refl
flagged_known (Bits n) e = refl
flagged_known (Text n) e = refl
flagged_known (Digits n) e = refl
flagged_known (Invalid n) e = refl
flagged_known Short e = refl
flagged_known (Unknown n) e = absurd (true≢false (sym e))
flagged_known (Left n) e = refl
flagged_known (Answered n) e = refl

-- Of the first lines, each is Unknown or stands among the second; with none Unknown, they are the second.
pub record Covered (ls ms : List Line) : Type 0 where
  pub among : (l : Line) → Memᴰ l ls → (is_unknown l ≡ true) ⊎ Memᴰ l ms
  pub same : any is_unknown ls ≡ false → ls ≡ ms

pub verdict_clear_lem : (ls ms : List Line) → Covered ls ms → verdict_of ls ≡ verdict_clear → verdict_of ms ≡ verdict_clear
unfolding verdict_of
verdict_clear_lem ls ms c e =
    cases (any is_flagged ls) (λ t. absurd (let z : ◌≡◌ {A = ℕ} verdict_flagged verdict_clear = sym (rw t) ∙ e in omega arith))
    (λ f.
    cases (any is_unknown ls) (λ t. absurd (let z : ◌≡◌ {A = ℕ} verdict_unknown verdict_clear = sym (rw (f, t)) ∙ e in omega arith))
    (λ g. ap verdict_of (sym (c.same g)) ∙ e))

pub verdict_flagged_lem : (ls ms : List Line) → Covered ls ms → verdict_of ls ≡ verdict_flagged → verdict_of ms ≡ verdict_flagged
unfolding verdict_of
verdict_flagged_lem ls ms c e =
    cases (any is_flagged ls)
    (λ t.
    let f = any_is is_flagged ls t in
    let m : Memᴰ f.0 ms = ⊎_elim (λ u. absurd (true≢false (sym u ∙ flagged_known f.0 f.2))) (λ n. n) (c.among f.0 f.1) in
    rw (any_of is_flagged ms f.0 m f.2))
    (λ f.
    absurd
    (cases (any is_unknown ls) (λ t. let z : ◌≡◌ {A = ℕ} verdict_unknown verdict_flagged = sym (rw (f, t)) ∙ e in omega arith)
    (λ t. let z : ◌≡◌ {A = ℕ} verdict_clear verdict_flagged = sym (rw (f, t)) ∙ e in omega arith)))

-- Lines kept one by one are covered.
pub kept_covered : (ls ms : List Line) → AllWith Kept ls ms → Covered ls ms
unfolding any
kept_covered [] [] k = record { among = λ l m. absurd (mathlib.Core.List.Memᴰ.not-nil m); same = λ e. refl }
kept_covered [] (m ∷ ms) k = absurd k
kept_covered (l ∷ ls) [] k = absurd k
kept_covered (l ∷ ls) (m ∷ ms) k =
    let below = kept_covered ls ms k.1 in
    record {
      among =
          λ x n.
          ⊎_elim
          (λ (h : x ≡ l). ⊎_elim (λ (e : l ≡ m). inr (mathlib.Core.List.Memᴰ.head (h ∙ e))) (λ u. inl (ap is_unknown h ∙ u)) k.0)
          (λ (t : Memᴰ x ls). ⊎_elim (λ u. inl u) (λ n. inr (mathlib.Core.List.Memᴰ.tail n)) (below.among x t))
          (mathlib.Core.List.Memᴰ.cases_cons n);
      same =
          λ e.
          ⊎_elim (λ (h : l ≡ m). λ i. h i ∷ below.same (rest l ls e) i) (λ u. absurd (true≢false (sym (rw u) ∙ e))) k.0;
    }
  where
    rest : (x : Line) (xs : List Line) → (is_unknown x || any is_unknown xs) ≡ false → any is_unknown xs ≡ false
    rest x xs e = cases (is_unknown x) (λ t. absurd (true≢false (sym (rw t) ∙ e))) (λ f. sym (rw f) ∙ e)

-- Lines behind lines.
none_of : (ls ms : List Line) → any is_unknown (ls ++ ms) ≡ false → (any is_unknown ls ≡ false) × (any is_unknown ms ≡ false)
unfolding any
none_of [] ms e = (refl, e)
none_of (l ∷ ls) ms e =
    cases (is_unknown l) (λ t. absurd (true≢false (sym (rw t) ∙ e)))
    (λ f. let below = none_of ls ms (sym (rw f) ∙ e) in (rw f below.0, below.1))

pub covered_append : (as₁ bs cs ds : List Line) → Covered as₁ bs → Covered cs ds → Covered (as₁ ++ cs) (bs ++ ds)
covered_append as₁ bs cs ds k j =
    record {
      among =
          λ l m.
          ⊎_elim (λ n. ⊎_elim inl (λ i. inr (mathlib.Core.List.Memᴰ.append_left ds i)) (k.among l n))
          (λ n. ⊎_elim inl (λ i. inr (mathlib.Core.List.Memᴰ.append_right bs i)) (j.among l n))
          (mathlib.Core.List.Memᴰ.append_cases as₁ m);
      same = λ e. let none = none_of as₁ cs e in λ i. k.same none.0 i ++ j.same none.1 i;
    }

pub covered_same : (ls : List Line) → Covered ls ls
covered_same ls = record { among = λ l m. inr m; same = λ e. refl }

-- A line that is Unknown covers any lines.
unknown_covered : (l : Line) (ms : List Line) → is_unknown l ≡ true → Covered (l ∷ []) ms
unknown_covered l ms u =
    record {
      among = λ k m. inl (ap is_unknown (mathlib.Core.List.Memᴰ.eq_of_singleton m) ∙ u);
      same = λ e. absurd (true≢false (sym (any_of is_unknown (l ∷ []) l (mathlib.Core.List.Memᴰ.head refl) u) ∙ e));
    }

kept_snoc : (ls ms : List Line) → AllWith Kept ls ms → (x y : Line) → Kept x y → AllWith Kept (ls ++ x ∷ []) (ms ++ y ∷ [])
kept_snoc [] [] a x y k = (k, tt)
kept_snoc [] (m ∷ ms) a x y k = absurd a
kept_snoc (l ∷ ls) [] a x y k = absurd a
kept_snoc (l ∷ ls) (m ∷ ms) a x y k = (a.0, kept_snoc ls ms a.1 x y k)

group_covered : (g h : Group) → GroupKept g h → Covered (g.items ++ g.remainder ∷ []) (h.items ++ h.remainder ∷ [])
group_covered g h k =
    ⊎_elim (λ a. kept_covered _ _ (kept_snoc g.items h.items a.0 g.remainder h.remainder k.remainder))
    (λ a.
    subst (λ (ls : List Line). Covered (ls ++ g.remainder ∷ []) (h.items ++ h.remainder ∷ [])) (sym a.0)
    (unknown_covered g.remainder _ a.2))
    k.items

pub groups_covered : (gs hs : List Group) → AllWith GroupKept gs hs → Covered (group_lines gs) (group_lines hs)
unfolding group_lines
groups_covered [] [] k = covered_same []
groups_covered [] (h ∷ hs) k = absurd k
groups_covered (g ∷ gs) [] k = absurd k
groups_covered (g ∷ gs) (h ∷ hs) k = covered_append _ _ _ _ (group_covered g h k.0) (groups_covered gs hs k.1)
