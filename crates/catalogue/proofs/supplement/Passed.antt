-- The records before a place are passed: none, one more, all, or the first with a fault.
use mathlib.Core.Path.{◌≡◌, sym, ap, ◌∙◌, subst}
use mathlib.Core.List.{List, [], ◌∷◌, ◌++◌}
use Prim.Native.Nat.{ℕ, ◌+◌, ◌≤◌, ◌<◌}
use native.Mathlib.Omega.{arith}
use borrow.Author.Tests.{ltb-true, ltb-false}
use lib.Dec.{ltb}
use lib.ListN.{length, take, drop, drop_of_length-le}
use Rattle.frame.proofs.bytes.Laws.{cases}
use Rattle.catalogue.specs.Record.{fault}
use Rattle.catalogue.specs.Supplement.{Checked, records_of, largest_supplement, check}
use Rattle.catalogue.specs.Inner.{record_from, Covers, Passed}
use Rattle.catalogue.proofs.filter.Laws.{covers_none}
use Rattle.catalogue.proofs.supplement.Laws.{whole_nil, whole_more, records_nil, records_from, records_more, from_length}
use Rattle.catalogue.proofs.supplement.Check.{free, from_whole, check_start, check_fault, check_next, check_end}

not-cons : {A : Type 0} {a : A} {l : List A} → a ∷ l ≡ [] → ⊥
not-cons e = let z : ◌≡◌ {A = ℕ} 0 1 = cc in omega arith

module _ (s : List ℕ) where
  pub none_passed : (f : List ℕ) → length s ≤ largest_supplement → Passed s f 0
  none_passed f h =
      record {
        test = check_start s h;
        whole = whole_nil;
        within = omega arith;
        covers = subst (Covers f) (sym records_nil) (covers_none f);
      }

  module _ {f : List ℕ} {at : ℕ} (passed : Passed s f at) where
    pub all_passed : records_of (drop at s) ≡ [] → ◌≡◌ {A = Checked} (record { refusal = 0; place = 0 }) (check s)
    all_passed none =
        cases (ltb at (length s)) (λ t. absurd (not-cons (sym (records_from s at (ltb-true at (length s) t)) ∙ none)))
        (λ f. sym (passed.test ∙ check_end s at (ltb-false at (length s) f)))

    -- At a record, and its fault.
    module _
        {r : List ℕ} {left : List (List ℕ)} {n : ℕ} (next : records_of (drop at s) ≡ r ∷ left)
        (told : n ≡ fault (records_of (take at s)) r)
      where
        inside : at < length s
        inside =
            cases (ltb at (length s)) (λ t. ltb-true at (length s) t)
            (λ f.
            absurd
            (not-cons
            (sym next ∙ ap records_of (drop_of_length-le s {i = at} (ltb-false at (length s) f)) ∙ records_nil)))

        parts : r ∷ left ≡ record_from s at ∷ records_of (drop (at + length (record_from s at)) s)
        parts = sym next ∙ records_from s at inside

        here : r ≡ record_from s at
        here = let e = parts in cc

        pub behind : left ≡ records_of (drop (at + length r) s)
        behind = rw here (let e = parts in cc)

        told_here : n ≡ fault (records_of (take at s)) (record_from s at)
        told_here = told ∙ ap (fault (records_of (take at s))) here

        pub faulty : (n ≡ 0 → ⊥) → ◌≡◌ {A = Checked} (record { refusal = n; place = at }) (check s)
        faulty some =
            (λ i. record { refusal = told_here i; place = at })
            ∙ sym (passed.test ∙ check_fault s at inside (λ none. some (told_here ∙ none)))

        pub one_passed : (g : List ℕ) → n ≡ 0 → Covers g (records_of (take at s) ++ r ∷ []) → Passed s g (at + length r)
        one_passed g none covers =
            let free-here = sym told_here ∙ none in
            let whole = from_whole s at inside (free (records_of (take at s)) (record_from s at) free-here).whole in
            subst (λ (q : List ℕ). Passed s g (at + length q)) (sym here)
            (record {
              test = passed.test ∙ check_next s at inside passed.whole free-here;
              whole = whole_more s at inside passed.whole whole;
              within = (from_length s at inside).1;
              covers =
                  subst (Covers g) (sym (records_more s at inside passed.whole whole))
                  (subst (λ (q : List ℕ). Covers g (records_of (take at s) ++ q ∷ [])) here covers);
            })
