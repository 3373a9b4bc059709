-- The count's rules at their place in the reader and the writer, and the one rule that was there.
use mathlib.Core.Path.{◌≡◌, refl, sym, ◌∙◌, subst}
use mathlib.Core.Logic.{◌↔◌}
use mathlib.Core.Bool.{true, false, true≢false}
use mathlib.Core.List.{List, [], ◌++◌}
use Prim.Native.Nat.{ℕ}
use borrow.Author.Tests.{eqb-true, eqb-false}
use lib.Dec.{eqb}
use Rattle.frame.specs.declared.response.ResponseKind.{ResponseKind}
use Rattle.frame.specs.Count.{count_rules, count_refusal, wrong_count}
use Rattle.frame.specs.Refusal.{Rule, first_broken, no_refusal}
use Rattle.frame.specs.Refusal.{too_long, too_short, check_wrong, type_unassigned, response_check_wrong, header_wrong, output_short}
use Rattle.frame.specs.Reader.{read_rules_with}
use Rattle.frame.specs.Writer.{write_rules_with}
use Rattle.frame.specs.Former.{former_rules, is_count_refusal, Split, count_wrong}
use Rattle.frame.proofs.bytes.Laws.{cases}
use Rattle.frame.proofs.refusal.Laws.{broken, kept, given_has, through, at_end}
use Rattle.frame.proofs.count.Laws.{count_given, count_past}

-- A number that neither is nor was one of the count's.
abbrev pub Other : ℕ → Type 0
Other n = (is_count_refusal n ≡ false) × (eqb n count_wrong ≡ false)

-- What holds of two lists of rules before any others holds of them at the count's place.
module _ (R : ℕ → ℕ → Type 0) (own : (n : ℕ) → Other n → R n n) (these those : List Rule)
    (ahead : (others : List Rule) → R (first_broken others) (first_broken others) → R (first_broken (these ++ others)) (first_broken (those ++ others)))
  where
    end : R (first_broken []) (first_broken [])
    end = at_end R (own no_refusal (refl, refl))

    pub in_reader : (first response : List ℕ) → R (first_broken (read_rules_with these first response)) (first_broken (read_rules_with those first response))
    unfolding read_rules_with
    in_reader first response =
        through R _ _ _ (own too_long (refl, refl))
        (through R _ _ _ (own too_short (refl, refl))
        (through R _ _ _ (own check_wrong (refl, refl))
        (through R _ _ _ (own type_unassigned (refl, refl)) (ahead _ (through R _ [] [] (own response_check_wrong (refl, refl)) end)))))

    pub in_writer :
        (header body response : List ℕ) (room : ℕ)
        → R (first_broken (write_rules_with these header body response room)) (first_broken (write_rules_with those header body response room))
    unfolding write_rules_with
    in_writer header body response room =
        through R _ _ _ (own header_wrong (refl, refl))
        (through R _ _ _ (own type_unassigned (refl, refl))
        (ahead _ (through R _ _ _ (own too_long (refl, refl)) (through R _ [] [] (own output_short (refl, refl)) end))))

-- Every other number stands where it did.
pub split_other : (n : ℕ) → Other n → Split n n
split_other n o =
    record {
      five = (λ e. absurd (true≢false (sym e ∙ o.0)), λ e. absurd (eqb-false n count_wrong o.1 e));
      others = λ e. refl;
    }

split_count : (n : ℕ) → is_count_refusal n ≡ true → Split n count_wrong
split_count n e = record { five = (λ t. refl, λ t. e); others = λ f. absurd (true≢false (sym e ∙ f)) }

-- What the four give is one of their numbers.
given_count : (kind : ResponseKind) (ofData n : ℕ) → (count_refusal kind ofData n ≡ no_refusal → ⊥) → is_count_refusal (count_refusal kind ofData n) ≡ true
unfolding count_refusal count_rules
given_count kind ofData n e =
    given_has (λ (m : ℕ). is_count_refusal m ≡ true) (count_rules kind ofData n) (refl, (refl, (refl, (refl, tt)))) e

-- The four, and the rule that they replace, if both are kept by the same responses.
module _ (kind : ResponseKind) (ofData n m : ℕ) (right : (count_refusal kind ofData n ≡ no_refusal) ↔ (wrong_count kind m ≡ false)) (others : List Rule) where
  abbrev before : ℕ
  before = first_broken (former_rules kind m ++ others)

  pub count_split : Split (first_broken others) (first_broken others) → Split (first_broken (count_rules kind ofData n ++ others)) before
  count_split s =
      cases (eqb (count_refusal kind ofData n) no_refusal)
      (λ t.
      let none = eqb-true (count_refusal kind ofData n) no_refusal t in
      subst (λ (x : ℕ). Split x before) (sym (count_past kind ofData n others none))
      (subst (λ (x : ℕ). Split (first_broken others) x) (sym (kept _ others (right.0 none))) s))
      (λ f.
      let some = eqb-false (count_refusal kind ofData n) no_refusal f in
      let wrong : wrong_count kind m ≡ true = cases (wrong_count kind m) (λ t. t) (λ z. absurd (some (right.1 z))) in
      subst (λ (x : ℕ). Split x before) (sym (count_given kind ofData n others some))
      (subst (λ (x : ℕ). Split (count_refusal kind ofData n) x) (sym (broken _ others wrong))
      (split_count _ (given_count kind ofData n some))))
