-- Laws of the search, and of binary search among rising keys.
use mathlib.Core.Path.{◌≡◌, refl, sym, ap, ◌∙◌}
use mathlib.Core.Logic.{⊎_elim}
use mathlib.Core.Bool.{Bool, true, false, cond, ◌&&◌, true≢false}
use mathlib.Core.List.Memᴰ
use mathlib.Core.List.{List, [], ◌∷◌, ◌++◌, map, Memᴰ}
use Prim.Native.Nat.{ℕ, zero, suc, ◌≤◌, ◌<◌}
use native.Mathlib.Nat.{le_of_suc-le-suc, not-suc-le-zero}
use native.Mathlib.Omega.{arith}
use borrow.Author.Tests.{ltb-true, ltb-false, eq-eqb, ne_eqb, eqb-true}
use lib.Dec.{eqb, ltb}
use lib.ListN.{length, get_or}
use Rattle.std.specs.Option.{option_or}
use Rattle.std.proofs.Common.{Option, None, Some, option_map, is_some, slice_get, find}
use Rattle.std.proofs.lemmas.List.{length-map, get_or-map}
use Rattle.std.proofs.lemmas.Option.{none-some, slice_get-get_or, slice_get_past}
use Rattle.frame.proofs.bytes.Laws.{cases}
use Rattle.catalogue.specs.Search.{first_where, every, rising}
use Rattle.catalogue.specs.Inner.{key_is}

pub both : (a b : Bool) → (a && b) ≡ true → (a ≡ true) × (b ≡ true)
both true b e = (refl, e)
both false b e = absurd (true≢false (sym e))

-- It is std's search.
pub first_is : {A : Type 0} (p : A → Bool) (l : List A) → find p l ≡ first_where p l
unfolding first_where
first_is p [] = refl
first_is p (a ∷ l) = ap (cond (p a) (Some a)) (first_is p l)

-- An element that passes is found, whatever follows; one that fails is passed over.
pub first_taken : {A : Type 0} (p : A → Bool) (a : A) (l : List A) → p a ≡ true → first_where p (a ∷ l) ≡ Some a
unfolding first_where
first_taken p a l e = rw e

pub first_passed : {A : Type 0} (p : A → Bool) (a : A) (l : List A) → p a ≡ false → first_where p (a ∷ l) ≡ first_where p l
unfolding first_where
first_passed p a l e = rw e

-- What is found passes the test and stands in the list.
pub found_is : {A : Type 0} (p : A → Bool) (l : List A) (a : A) → first_where p l ≡ Some a → (p a ≡ true) × Memᴰ a l
unfolding first_where
found_is p [] a e = absurd (none-some _ e)
found_is p (b ∷ l) a e =
    cases (p b)
    (λ t. let same : Some b ≡ Some a = sym (first_taken p b l t) ∙ e in let h : b ≡ a = cc in (ap p (sym h) ∙ t, Memᴰ.head (sym h)))
    (λ f. let r = found_is p l a (sym (first_passed p b l f) ∙ e) in (r.0, Memᴰ.tail r.1))

-- Nothing is found: every member fails the test.
pub none_is : {A : Type 0} (p : A → Bool) (l : List A) → first_where p l ≡ None → (a : A) → Memᴰ a l → p a ≡ false
none_is p [] e a m = absurd (Memᴰ.not-nil m)
none_is p (b ∷ l) e a m =
    cases (p b) (λ t. absurd (none-some _ (sym e ∙ first_taken p b l t)))
    (λ f.
    ⊎_elim (λ (h : a ≡ b). ap p h ∙ f) (λ (n : Memᴰ a l). none_is p l (sym (first_passed p b l f) ∙ e) a n)
    (Memᴰ.cases_cons m))

-- Where every member fails the test, nothing is found.
pub none_found : {A : Type 0} (p : A → Bool) (l : List A) → ((a : A) → Memᴰ a l → p a ≡ false) → first_where p l ≡ None
unfolding first_where
none_found p [] h = refl
none_found p (b ∷ l) h =
    first_passed p b l (h b (Memᴰ.head refl)) ∙ none_found p l (λ a m. h a (Memᴰ.tail m))

-- The search among what is made of each element.
pub first_map :
    {A B : Type 0} (f : A → B) (p : B → Bool) (l : List A) → first_where p (map f l) ≡ option_map f (first_where (λ a. p (f a)) l)
unfolding first_where
first_map f p [] = refl
first_map f p (a ∷ l) = cases (p (f a)) (λ t. rw t) (λ e. rw e (first_map f p l))

-- The search through one list and then another.
pub first_append : {A : Type 0} (p : A → Bool) (l k : List A) → first_where p (l ++ k) ≡ option_or (first_where p l) (first_where p k)
unfolding first_where
first_append p [] k = refl
first_append p (a ∷ l) k = cases (p a) (λ e. rw e) (λ e. rw e (first_append p l k))

-- Tests that agree on every member find the same.
pub first_same : {A : Type 0} (p q : A → Bool) (l : List A) → ((a : A) → Memᴰ a l → p a ≡ q a) → first_where p l ≡ first_where q l
unfolding first_where
first_same p q [] h = refl
first_same p q (a ∷ l) h =
    let e : first_where p l ≡ first_where q l = first_same p q l (λ b m. h b (Memᴰ.tail m)) in
    λ i. cond (h a (Memᴰ.head refl) i) (Some a) (e i)

-- What holds for every element holds for a member.
pub every_is : {A : Type 0} (p : A → Bool) (l : List A) → every p l ≡ true → (a : A) → Memᴰ a l → p a ≡ true
unfolding every
every_is p [] e a m = absurd (Memᴰ.not-nil m)
every_is p (b ∷ l) e a m =
    let t = both (p b) (every p l) e in
    ⊎_elim (λ (h : a ≡ b). ap p h ∙ t.0) (λ (n : Memᴰ a l). every_is p l t.1 a n) (Memᴰ.cases_cons m)

-- Among rising keys each is below all that follow.
rising_rest : (a : ℕ) (l : List ℕ) → rising (a ∷ l) ≡ true → rising l ≡ true
unfolding rising
rising_rest a [] e = refl
rising_rest a (b ∷ l) e = (both (ltb a b) (rising (b ∷ l)) e).1

rising_above : (a : ℕ) (l : List ℕ) → rising (a ∷ l) ≡ true → (i x : ℕ) → slice_get l i ≡ Some x → a < x
unfolding rising
rising_above a [] e i x h = absurd (none-some _ h)
rising_above a (b ∷ l) e zero x h =
    let s : b ≡ x = cc in omega (arith, ltb-true a b (both (ltb a b) (rising (b ∷ l)) e).0)
rising_above a (b ∷ l) e (suc i) x h =
    let t = both (ltb a b) (rising (b ∷ l)) e in omega (arith, ltb-true a b t.0, rising_above b l t.1 i x h)

rising_at : (l : List ℕ) → rising l ≡ true → (i j : ℕ) → i < j → j < length l → get_or l i 0 < get_or l j 0
rising_at [] e i j h k = absurd (not-suc-le-zero k)
rising_at (a ∷ l) e i zero h k = absurd (not-suc-le-zero h)
rising_at (a ∷ l) e zero (suc j) h k = rising_above a l e j (get_or l j 0) (slice_get-get_or l j 0 (le_of_suc-le-suc k))
rising_at (a ∷ l) e (suc i) (suc j) h k =
    rising_at l (rising_rest a l e) i j (le_of_suc-le-suc h) (le_of_suc-le-suc k)

-- Rising keys make the row at the place of a key the first row with that key: found by binary search is found by search from
-- the start.
pub by_key :
    {A : Type 0} (key : A → ℕ) (rows : List A) (k place : ℕ)
    → rising (map key rows) ≡ true
    → slice_get (map key rows) place ≡ first_where (key_is k) (map key rows)
    → slice_get rows place ≡ first_where (λ r. key_is k (key r)) rows
unfolding first_where
by_key key [] k place e h = refl
by_key key (a ∷ l) k zero e h =
    cases (eqb (key a) k) (λ t. rw t)
    (λ f.
    let g : Some (key a) ≡ first_where (key_is k) (map key l) = h ∙ first_passed (key_is k) (key a) (map key l) f in
    absurd (true≢false (sym (found_is (key_is k) (map key l) (key a) (sym g)).0 ∙ f)))
by_key key (a ∷ l) k (suc place) e h =
    cases (eqb (key a) k)
    (λ t.
    let g = rising_above (key a) (map key l) e place (key a) (h ∙ first_taken (key_is k) (key a) (map key l) t) in
    absurd (omega arith))
    (λ f.
    by_key key l k place (rising_rest (key a) (map key l) e) (h ∙ first_passed (key_is k) (key a) (map key l) f)
    ∙ sym (first_passed (λ r. key_is k (key r)) a l f))

-- A key at a place is found; where no place has it, nothing is.
first_key : (keys : List ℕ) (k i : ℕ) → i < length keys → get_or keys i 0 ≡ k → first_where (key_is k) keys ≡ Some k
first_key [] k i h e = absurd (not-suc-le-zero h)
first_key (a ∷ l) k zero h e = first_taken (key_is k) a l (eq-eqb a k e) ∙ ap Some e
first_key (a ∷ l) k (suc i) h e =
    cases (eqb a k) (λ t. first_taken (key_is k) a l t ∙ ap Some (eqb-true a k t))
    (λ f. first_passed (key_is k) a l f ∙ first_key l k i (le_of_suc-le-suc h) e)

no_key : (keys : List ℕ) (k : ℕ) → ((i : ℕ) → i < length keys → get_or keys i 0 ≡ k → ⊥) → first_where (key_is k) keys ≡ None
unfolding first_where
no_key [] k h = refl
no_key (a ∷ l) k h =
    first_passed (key_is k) a l (ne_eqb a k (h 0 (omega arith))) ∙ no_key l k (λ i b. h (suc i) (omega arith))

pub place_found : (keys : List ℕ) (k i : ℕ) → i < length keys → get_or keys i 0 ≡ k → slice_get keys i ≡ first_where (key_is k) keys
place_found keys k i h e = slice_get-get_or keys i 0 h ∙ ap Some e ∙ sym (first_key keys k i h e)

pub place_missing :
    (keys : List ℕ) (k i : ℕ)
    → length keys ≤ i
    → ((i : ℕ) → i < length keys → get_or keys i 0 ≡ k → ⊥)
    → slice_get keys i ≡ first_where (key_is k) keys
place_missing keys k i h n = slice_get_past keys i h ∙ sym (no_key keys k n)

-- Among rows whose keys rise the one with a key is what the search from the start finds.
module _ {A : Type 0} (key : A → ℕ) (rows : List A) (k : ℕ) (rises : rising (map key rows) ≡ true) where
  size : length (map key rows) ≡ length rows
  size = length-map rows key

  key_at : (i : ℕ) (d : A) → i < length rows → get_or (map key rows) i 0 ≡ key (get_or rows i d)
  key_at i d h = get_or-map key rows i d 0 h

  pub up : (i j : ℕ) (d e : A) → i ≤ j → j < length rows → key (get_or rows i d) ≤ key (get_or rows j e)
  up i j d e h l =
      let here = key_at i d (omega arith) in
      let there = key_at j e l in
      cases (ltb i j)
      (λ t. omega (arith, rising_at (map key rows) rises i j (ltb-true i j t) (omega (arith, size)), here, there))
      (λ f.
      let same : i ≡ j = omega (arith, ltb-false i j f) in
      omega (arith, here, there, ap (λ (n : ℕ). get_or (map key rows) n 0) same))

  abbrev sought : Option A
  sought = first_where (λ r. key_is k (key r)) rows

  pub there : (i : ℕ) (d : A) → i < length rows → key (get_or rows i d) ≡ k → Some (get_or rows i d) ≡ sought
  there i d h e =
      sym (slice_get-get_or rows i d h)
      ∙ by_key key rows k i rises (place_found (map key rows) k i (omega (arith, size)) (key_at i d h ∙ e))

  nowhere : A → ((i : ℕ) (d : A) → i < length rows → key (get_or rows i d) ≡ k → ⊥) → None ≡ sought
  nowhere d n =
      sym (slice_get_past rows (length rows) (omega arith))
      ∙ by_key key rows k (length rows) rises
      (place_missing (map key rows) k (length rows) (omega (arith, size))
      (λ i h e. n i d (omega (arith, size)) (sym (key_at i d (omega (arith, size))) ∙ e)))

pub absent :
    {A : Type 0} (key : A → ℕ) (rows : List A) (k : ℕ)
    → rising (map key rows) ≡ true
    → ((i : ℕ) (d : A) → i < length rows → key (get_or rows i d) ≡ k → ⊥)
    → None ≡ first_where (λ r. key_is k (key r)) rows
unfolding first_where
absent key [] k rises n = refl
absent key (x ∷ rows) k rises n = nowhere key (x ∷ rows) k rises x n

-- By the two answers: something was found, or nothing.
pub is_found_lem : {A : Type 0} (o : Option A) → is_some o ≡ true → (a : A) × (o ≡ Some a)
is_found_lem None e = absurd (true≢false (sym e))
is_found_lem (Some a) e = (a, refl)

pub not_found : {A : Type 0} (o : Option A) → is_some o ≡ false → o ≡ None
not_found None e = refl
not_found (Some a) e = absurd (true≢false e)
