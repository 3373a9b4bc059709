-- Laws of the count: its four rules, and the one rule that they replace.
use mathlib.Core.Path.{◌≡◌, refl, sym, ap, ◌∙◌}
use mathlib.Core.Logic.{◌↔◌}
use mathlib.Core.Bool.{Bool, true, false, cond, not, ◌&&◌}
use mathlib.Core.List.{List, ◌++◌}
use Prim.Native.Nat.{ℕ, ◌+◌, ◌-◌, ◌≤◌, ◌<◌}
use native.Mathlib.Omega.{arith}
use borrow.Author.Tests.{eq-eqb, ne_eqb, eqb-true, eqb-false, lt-ltb, le-ltb, ltb-true, ltb-false, not-false}
use lib.Dec.{eqb, ltb, lit<}
use Rattle.frame.specs.declared.response.ResponseKind.{ResponseKind}
use Rattle.frame.specs.declared.response.ResponseKind.TheVariants.{Empty, Single, Several, Data, Unassigned}
use Rattle.frame.specs.Response.{kind_number, is_checked, response_size, kind_empty, kind_single}
use Rattle.frame.specs.Count.{bytes_needed, count_rules, count_refusal, wrong_count, data_sent, data_given}
use Rattle.frame.specs.Refusal.{Rule, first_broken, times_broken, no_refusal}
use Rattle.frame.proofs.bytes.Laws.{cases}
use Rattle.frame.proofs.refusal.Laws.{kept, last_kept, none_broken, Numbered, among, past, none_among}

-- The four rules are kept.
pub record CountKept (kind : ResponseKind) (ofData n : ℕ) : Type 0 where
  pub allowed : (eqb (kind_number kind) kind_empty && ltb 0 n) ≡ false
  pub something : (ltb 0 (bytes_needed kind ofData) && eqb n 0) ≡ false
  pub enough : (ltb 0 n && ltb n (bytes_needed kind ofData)) ≡ false
  pub single : (eqb (kind_number kind) kind_single && ltb 1 n) ≡ false

module _ (kind : ResponseKind) (ofData n : ℕ) where
  pub count_numbered : Numbered (count_rules kind ofData n)
  unfolding count_rules
  count_numbered = (lit< tt, (lit< tt, (lit< tt, (lit< tt, tt))))

  pub count_kept : count_refusal kind ofData n ≡ no_refusal → CountKept kind ofData n
  unfolding count_refusal count_rules
  count_kept e =
      let forbidden = none_broken _ _ e (lit< tt) in
      let missing = none_broken _ _ forbidden.1 (lit< tt) in
      let too_few = none_broken _ _ missing.1 (lit< tt) in
      let too_many = none_broken _ _ too_few.1 (lit< tt) in
      record { allowed = forbidden.0; something = missing.0; enough = too_few.0; single = too_many.0 }

  pub count_unrefused : CountKept kind ofData n → count_refusal kind ofData n ≡ no_refusal
  unfolding count_refusal count_rules
  count_unrefused k = kept _ _ k.allowed ∙ kept _ _ k.something ∙ kept _ _ k.enough ∙ last_kept _ k.single

  -- The four among other rules: one that is broken gives its number; where none is, those behind them decide.
  module _ (others : List Rule) where
    pub count_given : (count_refusal kind ofData n ≡ no_refusal → ⊥) → first_broken (count_rules kind ofData n ++ others) ≡ count_refusal kind ofData n
    unfolding count_refusal
    count_given e = among (count_rules kind ofData n) others e

    pub count_past : count_refusal kind ofData n ≡ no_refusal → first_broken (count_rules kind ofData n ++ others) ≡ first_broken others
    unfolding count_refusal
    count_past e = past (count_rules kind ofData n) others count_numbered e

    pub none_counted :
        first_broken (count_rules kind ofData n ++ others) ≡ no_refusal → (count_refusal kind ofData n ≡ no_refusal) × (first_broken others ≡ no_refusal)
    unfolding count_refusal
    none_counted e = none_among (count_rules kind ofData n) others count_numbered e

-- Two tests that must both hold.
pub second_fails : (a b : Bool) → b ≡ false → (a && b) ≡ false
second_fails true b e = e
second_fails false b e = refl

fails_second : (a b : Bool) → a ≡ true → (a && b) ≡ false → b ≡ false
fails_second a b t e = rw t at e

-- "some but too few" needs a least of two.
pub few : (n m : ℕ) → m ≤ 1 → (ltb 0 n && ltb n m) ≡ false
few n m l = cases (ltb 0 n) (λ t. rw (t, le-ltb n m (omega (arith, ltb-true 0 n t)))) (λ f. rw f)

-- The four rules are kept exactly where the rule is that they replace, whose count is without check bytes.
right_count : (kind : ResponseKind) (checks n : ℕ) → CountKept kind (checks + 1) n → wrong_count kind (cond (is_checked kind) (n - checks) n) ≡ false
right_count Empty checks n k = ap not (eq-eqb n 0 (omega (arith, ltb-false 0 n k.allowed)))
right_count Single checks n k =
    ap not (eq-eqb n 1 (omega (arith, eqb-false n 0 k.something, ltb-false 1 n k.single)))
right_count Several checks n k = k.something
right_count Data checks n k =
    let some = eqb-false n 0 (fails_second _ _ (lt-ltb 0 (checks + 1) (omega arith)) k.something) in
    let all = ltb-false n (checks + 1) (fails_second _ _ (lt-ltb 0 n (omega (arith, some))) k.enough) in
    ne_eqb (n - checks) 0 (λ z. omega (arith, all))
right_count Unassigned checks n k = refl

kept_count : (kind : ResponseKind) (checks n : ℕ) → wrong_count kind (cond (is_checked kind) (n - checks) n) ≡ false → CountKept kind (checks + 1) n
kept_count Empty checks n e =
    let none = eqb-true n 0 (not-false _ e) in
    record { allowed = le-ltb 0 n (omega (arith, none)); something = refl; enough = few n 0 (omega arith); single = refl }
kept_count Single checks n e =
    let one = eqb-true n 1 (not-false _ e) in
    record {
      allowed = refl;
      something = ne_eqb n 0 (λ z. omega (arith, one));
      enough = few n 1 (omega arith);
      single = le-ltb 1 n (omega (arith, one));
    }
kept_count Several checks n e = record { allowed = refl; something = e; enough = few n 1 (omega arith); single = refl }
kept_count Data checks n e =
    let more = eqb-false (n - checks) 0 e in
    record {
      allowed = refl;
      something = second_fails (ltb 0 (checks + 1)) (eqb n 0) (ne_eqb n 0 (λ z. more (omega arith)));
      enough = second_fails (ltb 0 n) (ltb n (checks + 1)) (le-ltb n (checks + 1) (omega (arith, more)));
      single = refl;
    }
kept_count Unassigned checks n e = record { allowed = refl; something = refl; enough = few n 0 (omega arith); single = refl }

unchecked : (t : Bool) (n : ℕ) → cond t (n - 0) n ≡ n
unchecked true n = omega arith
unchecked false n = refl

-- The reader's count, check byte counted, and the writer's.
module _ (kind : ResponseKind) (n : ℕ) where
  pub sent_right : (count_refusal kind data_sent n ≡ no_refusal) ↔ (wrong_count kind (response_size kind n) ≡ false)
  unfolding response_size
  sent_right = (λ e. right_count kind 1 n (count_kept kind data_sent n e), λ e. count_unrefused kind data_sent n (kept_count kind 1 n e))

  pub given_right : (count_refusal kind data_given n ≡ no_refusal) ↔ (wrong_count kind n ≡ false)
  given_right =
      let m = unchecked (is_checked kind) n in (
        λ e. ap (wrong_count kind) (sym m) ∙ right_count kind 0 n (count_kept kind data_given n e),
        λ e. count_unrefused kind data_given n (kept_count kind 0 n (ap (wrong_count kind) m ∙ e)),
      )

-- A kind 3 response that the writer takes has data.
pub data_given_lem : (kind : ResponseKind) (n : ℕ) → wrong_count kind n ≡ false → kind ≡ Data → 0 < n
data_given_lem kind n e is = omega (arith, eqb-false n 0 (ap (λ k. wrong_count k n) (sym is) ∙ e))

-- A response with its check byte breaks the same rules in the reader as without it in the writer, but for kind 3 without data.
pub counted_alike :
    (kind : ResponseKind) (n : ℕ)
    → (kind ≡ Data → 0 < n)
    → count_rules kind data_sent (cond (is_checked kind) (n + 1) n) ≡ count_rules kind data_given n
unfolding count_rules
counted_alike Empty n some = refl
counted_alike Single n some = refl
counted_alike Several n some = refl
counted_alike Data n some =
    let h = some refl in
    rw (
      ne_eqb (n + 1) 0 (λ z. omega arith),
      ne_eqb n 0 (λ z. omega (arith, h)),
      few n 1 (omega arith),
      second_fails (ltb 0 (n + 1)) (ltb (n + 1) 2) (le-ltb (n + 1) 2 (omega (arith, h))),
    )
counted_alike Unassigned n some = refl

-- A rule counts once, if it is broken.
once : (t : Bool) → cond t 1 0 ≤ 1
once true = omega arith
once false = omega arith

-- Of the four at most one is broken.
pub one_at_most : (kind : ResponseKind) (ofData n : ℕ) → times_broken (count_rules kind ofData n) ≤ 1
unfolding count_rules times_broken
one_at_most Empty ofData n = rw (few n 0 (omega arith)) (omega (arith, once (ltb 0 n)))
one_at_most Single ofData n =
    rw (few n 1 (omega arith))
    (cases (eqb n 0)
    (λ t. rw (t, le-ltb 1 n (omega (arith, eqb-true n 0 t))) (omega arith))
    (λ f. rw f (omega (arith, once (ltb 1 n)))))
one_at_most Several ofData n = rw (few n 1 (omega arith)) (omega (arith, once (eqb n 0)))
one_at_most Data ofData n =
    cases (eqb n 0)
    (λ t. rw (le-ltb 0 n (omega (arith, eqb-true n 0 t))) (omega (arith, once (ltb 0 ofData && eqb n 0))))
    (λ f. rw (second_fails (ltb 0 ofData) (eqb n 0) f) (omega (arith, once (ltb 0 n && ltb n ofData))))
one_at_most Unassigned ofData n = rw (few n 0 (omega arith)) (omega arith)

-- The writer needs at most one byte of any kind.
pub one_given : (kind : ResponseKind) → bytes_needed kind data_given ≤ 1
one_given Empty = omega arith
one_given Single = omega arith
one_given Several = omega arith
one_given Data = omega arith
one_given Unassigned = omega arith
