-- What an accepted supplement is: exactly the rules over its records.
use mathlib.Core.Path.{◌≡◌, refl, sym, ap, ◌∙◌, subst}
use mathlib.Core.Logic.{◌↔◌, ⊎_elim}
use mathlib.Core.List.Memᴰ
use mathlib.Core.List.{List, [], ◌∷◌, ◌++◌, Memᴰ}
use Prim.Native.Nat.{ℕ, zero, suc, ◌+◌, ◌≤◌}
use native.Mathlib.Omega.{arith}
use borrow.Author.Tests.{eq-eqb, eqb-true, eqb-false, ltb-true, ltb-false, le-ltb}
use lib.Dec.{eqb, ltb}
use lib.ListN.{length, take, drop, length-take}
use lib.Seq.{get_or-take}
use Rattle.frame.proofs.bytes.Laws.{cases}
use Rattle.catalogue.specs.Refusal.{supplement_too_long}
use Rattle.catalogue.specs.Kind.{record_size}
use Rattle.catalogue.specs.Record.{record_kind, key_of, fault}
use Rattle.catalogue.specs.Supplement.{Checked, records_in, records_of, largest_supplement, check_from, check}
use Rattle.catalogue.specs.Supplement.{Accepted, Sound, Distinct, Good, SupplementObeys, Stands}
use Rattle.catalogue.proofs.kind.Laws.{size_positive}
use Rattle.catalogue.proofs.record.Keys.{own_key, new_differs, differs_new}
use Rattle.catalogue.proofs.supplement.Distinct.{distinct_unique}
use Rattle.catalogue.proofs.supplement.Check.{Free, free, faultless, check_over}

-- Records without fault one after the other, each after those before it.
AllFree : List (List ℕ) → List (List ℕ) → Type 0
AllFree seen [] = Unit {0}
AllFree seen (r ∷ rs) = Free seen r × AllFree (seen ++ r ∷ []) rs

test_free : (seen : List (List ℕ)) (at : ℕ) (rs : List (List ℕ)) → (check_from seen at rs).refusal ≡ 0 → AllFree seen rs
unfolding AllFree check_from
test_free seen at [] e = tt
test_free seen at (r ∷ rs) e =
    cases (eqb (fault seen r) 0)
    (λ t. (free seen r (eqb-true (fault seen r) 0 t), test_free (seen ++ r ∷ []) (at + length r) rs (sym (rw t) ∙ e)))
    (λ f. absurd (eqb-false (fault seen r) 0 f (sym (rw f) ∙ e)))

free_test : (seen : List (List ℕ)) (at : ℕ) (rs : List (List ℕ)) → AllFree seen rs → (check_from seen at rs).refusal ≡ 0
unfolding AllFree check_from
free_test seen at [] f = refl
free_test seen at (r ∷ rs) f = rw (eq-eqb (fault seen r) 0 (faultless seen r f.0)) (free_test (seen ++ r ∷ []) (at + length r) rs f.1)

-- No record of one list has the key of one of the other.
Apart : List (List ℕ) → List (List ℕ) → Type 0
Apart seen rs = (q : List ℕ) → Memᴰ q seen → (r : List ℕ) → Memᴰ r rs → key_of q ≡ key_of r → ⊥

free_apart : (seen rs : List (List ℕ)) → AllFree seen rs → Distinct rs × Apart seen rs
unfolding AllFree Apart
free_apart seen [] f = (tt, λ q m r n. absurd (Memᴰ.not-nil n))
free_apart seen (r ∷ rs) f =
    let below = free_apart (seen ++ r ∷ []) rs f.1 in (
      (λ q m e. below.1 r (Memᴰ.append_right seen (Memᴰ.head refl)) q m (sym e), below.0),
      λ q m x n e.
          ⊎_elim (λ (h : x ≡ r). new_differs seen r f.0.first q m (e ∙ ap key_of h))
          (λ (t : Memᴰ x rs). below.1 q (Memᴰ.append_left (r ∷ []) m) x t e)
          (Memᴰ.cases_cons n),
    )

free_each : (seen rs : List (List ℕ)) → AllFree seen rs → (r : List ℕ) → Memᴰ r rs → (before : List (List ℕ)) × Free before r
unfolding AllFree
free_each seen [] f r m = absurd (Memᴰ.not-nil m)
free_each seen (q ∷ rs) f r m =
    ⊎_elim (λ (h : r ≡ q). (seen, subst (Free seen) (sym h) f.0)) (λ (t : Memᴰ r rs). free_each (seen ++ q ∷ []) rs f.1 r t)
    (Memᴰ.cases_cons m)

apart_free : (seen rs : List (List ℕ)) → ((r : List ℕ) → Memᴰ r rs → Sound r) → Distinct rs → Apart seen rs → AllFree seen rs
unfolding AllFree Apart
apart_free seen [] each d a = tt
apart_free seen (r ∷ rs) each d a =
    let s = each r (Memᴰ.head refl) in
    let whole : record_size (record_kind r) ≤ length r = omega (arith, s.whole) in (
      record {
        known = s.known;
        whole = whole;
        range = s.range;
        first = differs_new seen (key_of r) (own_key r s.known whole) (λ q m e. a q m r (Memᴰ.head refl) e);
        new = s.new;
      },
      apart_free (seen ++ r ∷ []) rs (λ q m. each q (Memᴰ.tail m)) d.1
          (λ q m x n e.
          ⊎_elim (λ (t : Memᴰ q seen). a q t x (Memᴰ.tail n) e)
          (λ (t : Memᴰ q (r ∷ [])). d.0 x n (sym e ∙ ap key_of (Memᴰ.eq_of_singleton t)))
          (Memᴰ.append_cases seen m)),
    )

-- No record is longer than its kind says.
short : (n : ℕ) (s r : List ℕ) → Memᴰ r (records_in n s) → length r ≤ record_size (record_kind r)
unfolding records_in
short zero s r m = absurd (Memᴰ.not-nil m)
short (suc n) [] r m = absurd (Memᴰ.not-nil m)
short (suc n) (k ∷ s) r m =
    ⊎_elim
    (λ (h : r ≡ take (record_size k) (k ∷ s)).
    let kind : record_kind r ≡ k = ap record_kind h ∙ get_or-take (record_size k) (k ∷ s) 0 0 (size_positive k) in
    omega (arith, ap length h, length-take (record_size k) (k ∷ s), ap record_size kind))
    (λ (t : Memᴰ r (records_in n (drop (record_size k) (k ∷ s)))). short n (drop (record_size k) (k ∷ s)) r t)
    (Memᴰ.cases_cons m)

check_within : (s : List ℕ) → length s ≤ largest_supplement → check s ≡ check_from [] 0 (records_of s)
unfolding check
check_within s h = rw (le-ltb largest_supplement (length s) h)

accepted_size : (s : List ℕ) → Accepted s → length s ≤ largest_supplement
accepted_size s e =
    cases (ltb largest_supplement (length s))
    (λ t. absurd (let z : ◌≡◌ {A = ℕ} supplement_too_long 0 = ap (λ (c : Checked). c.refusal) (sym (check_over s (ltb-true _ _ t))) ∙ e in omega arith))
    (λ f. ltb-false _ _ f)

accepted_free : (s : List ℕ) → Accepted s → AllFree [] (records_of s)
accepted_free s e =
    test_free [] 0 (records_of s) (ap (λ (c : Checked). c.refusal) (sym (check_within s (accepted_size s e))) ∙ e)

-- What the test accepts is exactly what the rules accept, over the records.
pub supplement_accepted_exactly : (s : List ℕ) → Accepted s ↔ SupplementObeys s
unfolding records_of Apart
supplement_accepted_exactly s = (forward, backward)
  where
    forward : Accepted s → SupplementObeys s
    forward e =
        record {
          size = accepted_size s e;
          records =
              record {
                each =
                    λ r m.
                    let f = (free_each [] (records_of s) (accepted_free s e) r m).1 in
                    record {
                      known = f.known;
                      whole = omega (arith, f.whole, short (length s) s r m);
                      range = f.range;
                      new = f.new;
                    };
                keys = (free_apart [] (records_of s) (accepted_free s e)).0;
              };
        }

    backward : SupplementObeys s → Accepted s
    backward o =
        ap (λ (c : Checked). c.refusal) (check_within s o.size)
        ∙ free_test [] 0 (records_of s) (apart_free [] (records_of s) o.records.each o.records.keys (λ q m. absurd (Memᴰ.not-nil m)))

-- The records of an accepted supplement are good: each known, whole and in range, its key not in the SAE tables, and no key twice.
pub good : (s : List ℕ) → Accepted s → Good (records_of s)
good s e = ((supplement_accepted_exactly s).0 e).records

-- What the call tells of an accepted supplement.
pub checked_accepted : (s : List ℕ) → record { refusal = 0; place = 0 } ≡ check s → Accepted s
checked_accepted s e = ap (λ (c : Checked). c.refusal) (sym e)

-- Keys are unique in an accepted supplement.
pub unique : (s : List ℕ) → Accepted s → (r q : List ℕ) → Stands r s → Stands q s → key_of r ≡ key_of q → r ≡ q
unique s e r q m n same = distinct_unique (records_of s) (good s e).keys r q m n same
