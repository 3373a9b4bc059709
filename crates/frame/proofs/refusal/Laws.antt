-- Laws of the rules in their order.
use mathlib.Core.Path.{◌≡◌, refl, sym, ap, ◌∙◌, subst}
use mathlib.Core.Logic.{◌↔◌}
use mathlib.Core.Bool.{Bool, true, false, cond, ◌||◌}
use mathlib.Core.List.{List, [], ◌∷◌, ◌++◌, Permᴰ}
use Prim.Native.Nat.{ℕ, ◌+◌, ◌≤◌, ◌<◌}
use borrow.Author.Tests.{eq-eqb, ne_eqb, eqb-true, eqb-false}
use lib.Dec.{eqb}
use native.Mathlib.Omega.{arith}
use Rattle.frame.specs.declared.refusal.Refusal.{Refusal}
use Rattle.frame.specs.declared.refusal.Refusal.TheVariants.{TooLong}
use Rattle.frame.specs.Refusal.{number_of, refused, accepted, outcome, Rule, first_broken, times_broken}
use Rattle.frame.proofs.bytes.Laws.{cases}

-- A broken rule gives its number, whatever follows; a kept one passes on.
pub broken : (r : Rule) (rs : List Rule) → r.broken ≡ true → first_broken (r ∷ rs) ≡ r.number
unfolding first_broken
broken r rs e = rw e

pub kept : (r : Rule) (rs : List Rule) → r.broken ≡ false → first_broken (r ∷ rs) ≡ first_broken rs
unfolding first_broken
kept r rs e = rw e

pub last_kept : (r : Rule) → r.broken ≡ false → first_broken (r ∷ []) ≡ 0
unfolding first_broken
last_kept r e = rw e

-- With no refusal the first rule is kept, and so are the others.
pub none_broken : (r : Rule) (rs : List Rule) → first_broken (r ∷ rs) ≡ 0 → 0 < r.number → (r.broken ≡ false) × (first_broken rs ≡ 0)
unfolding first_broken
none_broken r rs e h = go r.broken e
  where
    go : (t : Bool) → cond t r.number (first_broken rs) ≡ 0 → (t ≡ false) × (first_broken rs ≡ 0)
    go true e = absurd (omega arith)
    go false e = (refl, e)

-- What each rule's number has.
abbrev pub Each : (ℕ → Type 0) → List Rule → Type 0
Each P [] = Unit {0}
Each P (r ∷ rs) = P r.number × Each P rs

-- No rule has the number of no refusal.
abbrev pub Numbered : List Rule → Type 0
Numbered rs = Each (λ n. 0 < n) rs

-- What is given is one of the numbers.
pub given_has : (P : ℕ → Type 0) (rs : List Rule) → Each P rs → (first_broken rs ≡ 0 → ⊥) → P (first_broken rs)
unfolding first_broken
given_has P [] each e = absurd (e refl)
given_has P (r ∷ rs) each e =
    cases r.broken
    (λ t. subst P (sym (broken r rs t)) each.0)
    (λ f. subst P (sym (kept r rs f)) (given_has P rs each.1 (λ z. e (kept r rs f ∙ z))))

-- Rules among others: where one of them is broken it gives its number; where none is, those behind them decide.
pub among : (rs qs : List Rule) → (first_broken rs ≡ 0 → ⊥) → first_broken (rs ++ qs) ≡ first_broken rs
unfolding first_broken
among [] qs e = absurd (e refl)
among (r ∷ rs) qs e =
    cases r.broken
    (λ t. broken r (rs ++ qs) t ∙ sym (broken r rs t))
    (λ f. kept r (rs ++ qs) f ∙ among rs qs (λ z. e (kept r rs f ∙ z)) ∙ sym (kept r rs f))

pub past : (rs qs : List Rule) → Numbered rs → first_broken rs ≡ 0 → first_broken (rs ++ qs) ≡ first_broken qs
past [] qs n e = refl
past (r ∷ rs) qs n e = let b = none_broken r rs e n.0 in kept r (rs ++ qs) b.0 ∙ past rs qs n.1 b.1

pub none_among :
    (rs qs : List Rule) → Numbered rs → first_broken (rs ++ qs) ≡ 0 → (first_broken rs ≡ 0) × (first_broken qs ≡ 0)
none_among rs qs n e =
    cases (eqb (first_broken rs) 0)
    (λ t. let z = eqb-true (first_broken rs) 0 t in (z, sym (past rs qs n z) ∙ e))
    (λ f. let z = eqb-false (first_broken rs) 0 f in absurd (z (sym (among rs qs z) ∙ e)))

-- What stands behind some rules may be replaced by what gives the same.
pub same_behind : (rs xs ys : List Rule) → first_broken xs ≡ first_broken ys → first_broken (rs ++ xs) ≡ first_broken (rs ++ ys)
unfolding first_broken
same_behind [] xs ys e = e
same_behind (r ∷ rs) xs ys e = ap (cond r.broken r.number) (same_behind rs xs ys e)

-- What holds of two refusals holds of them behind a further rule, if it holds of that rule's number with itself.
module _ (R : ℕ → ℕ → Type 0) where
  pub through :
      (r : Rule) (xs ys : List Rule)
      → R r.number r.number
      → R (first_broken xs) (first_broken ys)
      → R (first_broken (r ∷ xs)) (first_broken (r ∷ ys))
  unfolding first_broken
  through r xs ys own e = go r.broken
    where
      go : (t : Bool) → R (cond t r.number (first_broken xs)) (cond t r.number (first_broken ys))
      go true = own
      go false = e

  pub at_end : R 0 0 → R (first_broken []) (first_broken [])
  unfolding first_broken
  at_end e = e

-- A rule with this number is broken.
abbrev pub gives : ℕ → List Rule → Bool
gives n [] = false
gives n (r ∷ rs) = cond (eqb r.number n) (r.broken || gives n rs) (gives n rs)

-- What is given is given by a rule.
pub given_by : (n : ℕ) (rs : List Rule) → 0 < n → first_broken rs ≡ n → gives n rs ≡ true
unfolding first_broken
given_by n [] h e = absurd (omega arith)
given_by n (r ∷ rs) h e =
    cases r.broken
    (λ t. rw (t, eq-eqb r.number n (sym (broken r rs t) ∙ e)))
    (λ f.
    let later = given_by n rs h (sym (kept r rs f) ∙ e) in
    cases (eqb r.number n) (λ t. rw (t, f) later) (λ u. rw u later))

-- How many are broken, whatever their order.
times_alike : {rs qs : List Rule} → Permᴰ rs qs → times_broken rs ≡ times_broken qs
unfolding times_broken
times_alike Permᴰ.nil = refl
times_alike (Permᴰ.cons e d) = λ i. cond (e i).broken 1 0 + times_alike d i
times_alike (Permᴰ.swap {a} {b} {a'} {b'} {l} e f) =
    let swapped : cond a.broken 1 0 + (cond b.broken 1 0 + times_broken l) ≡ cond b.broken 1 0 + (cond a.broken 1 0 + times_broken l) =
    omega arith in
    swapped ∙ (λ i. cond (f i).broken 1 0 + (cond (e i).broken 1 0 + times_broken l))
times_alike (Permᴰ.trans d e) = times_alike d ∙ times_alike e

-- Rules of which at most one is broken give the same in any order, among others too.
module _ (others : List Rule) where
  swapped : (a b : Rule) (l : List Rule) → times_broken (a ∷ b ∷ l) ≤ 1 → first_broken (a ∷ b ∷ (l ++ others)) ≡ first_broken (b ∷ a ∷ (l ++ others))
  unfolding first_broken times_broken
  swapped a b l h =
      cases a.broken
      (λ t. cases b.broken (λ u. absurd (omega (arith, rw (t, u) at h))) (λ f. rw (t, f)))
      (λ f. rw f)

  pub any_order : {rs qs : List Rule} → Permᴰ rs qs → times_broken rs ≤ 1 → first_broken (rs ++ others) ≡ first_broken (qs ++ others)
  unfolding times_broken
  any_order Permᴰ.nil h = refl
  any_order (Permᴰ.cons {a} {b} {l₁} {l₂} e d) h =
      cases a.broken
      (λ t. broken a (l₁ ++ others) t ∙ ap (λ r. r.number) e ∙ sym (broken b (l₂ ++ others) (sym (ap (λ r. r.broken) e) ∙ t)))
      (λ f.
      kept a (l₁ ++ others) f
      ∙ any_order d (omega (arith, rw f at h))
      ∙ sym (kept b (l₂ ++ others) (sym (ap (λ r. r.broken) e) ∙ f)))
  any_order (Permᴰ.swap {a} {b} {a'} {b'} {l} e f) h = swapped a b l h ∙ (λ i. first_broken (f i ∷ e i ∷ (l ++ others)))
  any_order (Permᴰ.trans d e) h = any_order d h ∙ any_order e (rw (sym (times_alike d)) h)

-- Accepted where there is no refusal, refused where there is one.
pub unrefused_is : {A : Type 0} (n : ℕ) (a : A) → n ≡ 0 → outcome n a ≡ accepted a
unrefused_is n a e = rw (eq-eqb n 0 e)

pub refused_is : {A : Type 0} (n : ℕ) (a : A) → (n ≡ 0 → ⊥) → outcome n a ≡ refused n
refused_is n a e = rw (ne_eqb n 0 e)

-- No refusal of frames has the number of none.
numbered : (e : Refusal) → 0 < number_of e
numbered e = elim e as (λ e. 0 < number_of e) [
  | TooLong ↦ omega arith
  | _ ↦ omega arith
]

-- Where a test refused, what was asked for is refused with the test's number.
pub refused_by : {A : Type 0} (n : ℕ) (a : A) (e : Refusal) → number_of e ≡ n → outcome n a ≡ refused (number_of e)
refused_by n a e told = refused_is n a (λ z. omega (arith, numbered e)) ∙ ap refused (sym told)

-- What is accepted had no refusal, and is what was asked for.
pub accepted_is : {A : Type 0} (n : ℕ) (a b : A) → outcome n a ≡ accepted b → (n ≡ 0) × (a ≡ b)
accepted_is n a b e =
    cases (eqb n 0)
    (λ t. (eqb-true n 0 t, let f : accepted a ≡ accepted b = sym (unrefused_is n a (eqb-true n 0 t)) ∙ e in cc))
    (λ f. absurd (let g : refused n ≡ accepted b = sym (refused_is n a (eqb-false n 0 f)) ∙ e in let z : ◌≡◌ {A = ℕ} 0 1 = cc in omega arith))

-- So it has what was asked for has wherever there is no refusal.
pub accepted_has : {A : Type 0} (P : A → Type 0) (n : ℕ) (a b : A) → outcome n a ≡ accepted b → (n ≡ 0 → P a) → P b
accepted_has P n a b e has = let told = accepted_is n a b e in subst P told.1 (has told.0)

-- Something is accepted exactly when rules are obeyed, if obeying them is to have no refusal.
pub accepted_exactly :
    {A : Type 0} {Obeyed : Type 0} (n : ℕ) (a : A)
    → (n ≡ 0 → Obeyed)
    → (Obeyed → n ≡ 0)
    → ((b : A) × (outcome n a ≡ accepted b)) ↔ Obeyed
accepted_exactly n a obeys unrefused = (λ t. obeys (accepted_is n a t.0 t.1).0, λ o. (a, unrefused_is n a (unrefused o)))

-- There and back: what one side accepts the other accepts, and gives back the whole, if it does so of what was asked for.
pub there_and_back :
    {A B : Type 0} (refusal : A → ℕ) (make : A → B) (n : ℕ) (a b : A) (whole : B)
    → outcome n a ≡ accepted b
    → (n ≡ 0 → (refusal a ≡ 0) × (make a ≡ whole))
    → outcome (refusal b) (make b) ≡ accepted whole
there_and_back refusal make n a b whole e back =
    accepted_has (λ x. outcome (refusal x) (make x) ≡ accepted whole) n a b e
    (λ z. unrefused_is (refusal a) (make a) (back z).0 ∙ ap accepted (back z).1)
