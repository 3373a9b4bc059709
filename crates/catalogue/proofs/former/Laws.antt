-- Records of the former form, each layout with its zero, are found as they were.
use Rattle.std.proofs.Math.Bool.{and-false}
use Rattle.std.specs.Option.{option_or}
use Rattle.std.proofs.Common.{Option, Some, unwrap_or, option_map}
use mathlib.Core.Path.{◌≡◌, refl, sym, ap, ◌∙◌, subst}
use mathlib.Core.Bool.{Bool, true, false, cond, ◌&&◌}
use mathlib.Core.List.Memᴰ
use mathlib.Core.List.{List, [], ◌∷◌, ◌++◌, map, Memᴰ}
use Prim.Native.Nat.{ℕ, zero, suc, ◌+◌, ◌*◌, ◌≤◌, ◌<◌}
use native.Mathlib.Omega.{arith}
use borrow.Author.Tests.{eq-eqb, ne_eqb, eqb-true, eqb-false, leb-true}
use lib.Dec.{eqb, leb}
use lib.ListN.{length, take, drop, get_or, length-take, length-append, take-append-drop, get_or-append}
use lib.Seq.{length-take-le, get_or-take, drop-cons, take_at, drop_at}
use Rattle.frame.proofs.bytes.Laws.{cases}
use Rattle.catalogue.specs.Search.{first_where}
use Rattle.catalogue.specs.Kind.{layout_kind, selector_kind, record_size}
use Rattle.catalogue.specs.Sae.{sae_prn, sae_slot}
use Rattle.catalogue.specs.Record.{most_prns, record_kind, has_key, record_with, two, numbers, prn_row, slot_row, layout_row}
use Rattle.catalogue.specs.Record.{selector_length, selector_bytes, most_selector, layout_count, prns_at, header_fits, selector_fits}
use Rattle.catalogue.specs.Supplement.{records_of, Stands, Accepted, Sound}
use Rattle.catalogue.specs.Lookup.{prn_key, slot_key, selector_key, catalogue_of, usual_length, length_for}
use Rattle.catalogue.specs.Former.{former_key, former_key_size, former_row, gained, grown, former_size, FormerLayout, former_catalogue, AsFormer}
use Rattle.catalogue.proofs.search.Laws.{both, none_found, first_taken, first_passed}
use Rattle.catalogue.proofs.kind.Laws.{layout_size}
use Rattle.catalogue.proofs.record.Laws.{key_unlike, layout_has, zero_from}
use Rattle.catalogue.proofs.record.Keys.{has_is, has_kind}
use Rattle.catalogue.proofs.Accepted.{good}

-- A layout grows, and nothing else does.
grown_layout : (r : List ℕ) → record_kind r ≡ layout_kind → grown r ≡ take former_key_size r ++ gained ∷ drop former_key_size r
unfolding grown
grown_layout r e = rw (eq-eqb (record_kind r) layout_kind e)

grown_other : (r : List ℕ) → (record_kind r ≡ layout_kind → ⊥) → grown r ≡ r
unfolding grown
grown_other r n = rw (ne_eqb (record_kind r) layout_kind n)

key_grown : (key r : List ℕ) → has_key (key ++ 0 ∷ []) (take (length key) r ++ 0 ∷ drop (length key) r) ≡ has_key key r
unfolding has_key
key_grown [] r = refl
key_grown (k ∷ []) [] = and-false (eqb k 0)
key_grown (k ∷ l ∷ key) [] = and-false (eqb k 0)
key_grown (k ∷ key) (b ∷ r) = ap (λ (x : Bool). eqb k b && x) (key_grown key r)

-- A record of another kind stays, and a key of another kind finds what it found.
other_key : (k : ℕ) (key r : List ℕ) → (k ≡ layout_kind → ⊥) → has_key (k ∷ key) (grown r) ≡ has_key (k ∷ key) r
unfolding has_key
other_key k key [] n = ap (has_key (k ∷ key)) (grown_other [] (λ e. omega arith))
other_key k key (b ∷ r) n =
    cases (eqb b layout_kind)
    (λ t.
    let e : b ≡ layout_kind = eqb-true b layout_kind t in
    let differ : eqb k b ≡ false = ne_eqb k b (λ h. n (h ∙ e)) in
    ap (has_key (k ∷ key)) (grown_layout (b ∷ r) e) ∙ rw differ)
    (λ f. ap (has_key (k ∷ key)) (grown_other (b ∷ r) (eqb-false b layout_kind f)))

-- What is found among grown records, by a key that fits a grown record exactly where another fits the record, and a row that the grown
-- record has as the record has it.
module _
    {B : Type 0}
    (row row' : List ℕ → B)
    (key key' : List ℕ)
    (fits : (r : List ℕ) → has_key key (grown r) ≡ has_key key' r)
    (same : (r : List ℕ) → has_key key' r ≡ true → row (grown r) ≡ row' r)
  where
    grown_found : (rs : List (List ℕ)) → option_map row (record_with key (map grown rs)) ≡ option_map row' (record_with key' rs)
    unfolding record_with first_where
    grown_found [] = refl
    grown_found (r ∷ rs) =
        cases (has_key key' r)
        (λ t.
        ap (option_map row) (first_taken (has_key key) (grown r) (map grown rs) (fits r ∙ t))
        ∙ ap Some (same r t)
        ∙ sym (ap (option_map row') (first_taken (has_key key') r rs t)))
        (λ f.
        ap (option_map row) (first_passed (has_key key) (grown r) (map grown rs) (fits r ∙ f))
        ∙ grown_found rs
        ∙ sym (ap (option_map row') (first_passed (has_key key') r rs f)))

-- A row of another kind is read from the same record.
other_row : {B : Type 0} (row : List ℕ → B) (k : ℕ) (key r : List ℕ) → (k ≡ layout_kind → ⊥) → has_key (k ∷ key) r ≡ true → row (grown r) ≡ row r
other_row row k key r n e = ap row (grown_other r (λ h. n (sym (has_kind (k ∷ key) r (omega arith) e) ∙ h)))

-- Behind a byte put in, everything stands one place further on.
one_further : (b : ℕ) (xs ys : List ℕ) (m : ℕ) → length xs ≤ m → get_or (xs ++ b ∷ ys) (suc m) 0 ≡ get_or (xs ++ ys) m 0
one_further b [] ys m h = refl
one_further b (x ∷ xs) ys zero h = absurd (omega arith)
one_further b (x ∷ xs) ys (suc m) h = one_further b xs ys m (omega arith)

numbers_further :
    (r q : List ℕ) (n i : ℕ) → ((m : ℕ) → i ≤ m → get_or r (suc m) 0 ≡ get_or q m 0) → numbers n (suc i) r ≡ numbers n i q
unfolding numbers two
numbers_further r q zero i h = refl
numbers_further r q (suc n) i h =
    let next : suc i + 1 ≡ suc (i + 1) = omega arith in
    let after : suc i + 2 ≡ suc (i + 2) = omega arith in
    let low : get_or r (suc i + 1) 0 ≡ get_or q (i + 1) 0 = ap (λ (m : ℕ). get_or r m 0) next ∙ h (i + 1) (omega arith) in
    let rest : numbers n (suc i + 2) r ≡ numbers n (i + 2) q =
    ap (λ (m : ℕ). numbers n m r) after ∙ numbers_further r q n (i + 2) (λ m l. h m (omega arith)) in
    λ j. (h i (omega arith) j * 256 + low j) ∷ rest j

-- So a layout has the PRNs that the former one had.
module _ (r : List ℕ) (kind : record_kind r ≡ layout_kind) (whole : former_key_size ≤ length r) where
  further : (m : ℕ) → former_key_size ≤ m → get_or (grown r) (suc m) 0 ≡ get_or r m 0
  further m h =
      let size : length (take former_key_size r) ≡ former_key_size = length-take-le former_key_size r whole in
      ap (λ (q : List ℕ). get_or q (suc m) 0) (grown_layout r kind)
      ∙ one_further gained (take former_key_size r) (drop former_key_size r) m (omega (arith, size))
      ∙ ap (λ (q : List ℕ). get_or q m 0) (take-append-drop former_key_size r)

  row_grown : layout_row (grown r) ≡ former_row r
  unfolding layout_row former_row
  row_grown =
      let prns : numbers most_prns 7 (grown r) ≡ numbers most_prns 6 r = numbers_further (grown r) r most_prns 6 (λ m h. further m (omega arith)) in
      λ i. record { prns = take (further 5 (omega arith) i) (prns i) }

-- A key fits a record that is as long, and a former layout's key with its zero fits what the key fitted.
has_whole : (key r : List ℕ) → has_key key r ≡ true → length key ≤ length r
has_whole key r e = omega (arith, ap length (has_is key r e), length-take (length key) r)

layout_key_lem : (b t x y : ℕ) (r : List ℕ) → has_key (former_key b t x y ++ 0 ∷ []) (grown r) ≡ has_key (former_key b t x y) r
layout_key_lem b t x y r =
    cases (eqb (record_kind r) layout_kind)
    (λ e. ap (has_key (former_key b t x y ++ 0 ∷ [])) (grown_layout r (eqb-true _ _ e)) ∙ key_grown (former_key b t x y) r)
    (λ f.
    let n : record_kind r ≡ layout_kind → ⊥ = eqb-false _ _ f in
    ap (has_key (former_key b t x y ++ 0 ∷ [])) (grown_other r n)
    ∙ key_unlike (former_key b t x y ++ 0 ∷ []) r 0 (omega arith) (λ l e. n (sym e))
    ∙ sym (key_unlike (former_key b t x y) r 0 (omega arith) (λ l e. n (sym e))))

module _ (rs : List (List ℕ)) where
  pub former_prn : (p : ℕ) → (catalogue_of (map grown rs)).prn p ≡ (former_catalogue rs).prn p
  unfolding catalogue_of former_catalogue
  former_prn p =
      ap (option_or (sae_prn p))
      (grown_found prn_row prn_row (prn_key p) (prn_key p) (λ r. other_key _ _ r (λ e. omega arith)) (λ r e. other_row prn_row _ _ r (λ e. omega arith) e)
      rs)

  pub former_slot : (f w n : ℕ) → (catalogue_of (map grown rs)).slot f w n ≡ (former_catalogue rs).slot f w n
  unfolding catalogue_of former_catalogue
  former_slot f w n =
      ap (option_or (sae_slot f w n))
      (grown_found slot_row slot_row (slot_key f w n) (slot_key f w n) (λ r. other_key _ _ r (λ e. omega arith))
      (λ r e. other_row slot_row _ _ r (λ e. omega arith) e) rs)

  -- "the old layout key is the new one with length and zero"
  pub former_layout :
      (b t x y : ℕ) → (catalogue_of (map grown rs)).layout (former_key b t x y ++ 0 ∷ []) ≡ (former_catalogue rs).layout (former_key b t x y)
  unfolding catalogue_of former_catalogue
  former_layout b t x y =
      grown_found layout_row former_row (former_key b t x y ++ 0 ∷ []) (former_key b t x y) (layout_key_lem b t x y)
      (λ r e. row_grown r (has_kind (former_key b t x y) r (omega arith) e) (has_whole (former_key b t x y) r e)) rs

-- "a header without one keeps length 1"
pub usual_length_lem :
    (rs : List (List ℕ)) → ((r : List ℕ) → Memᴰ r rs → record_kind r ≡ selector_kind → ⊥) → (b t : ℕ) → length_for (catalogue_of rs) b t ≡ usual_length
unfolding length_for catalogue_of record_with
usual_length_lem rs none_of b t =
    ap (λ (o : Option (List ℕ)). unwrap_or (option_map selector_length o) usual_length)
    (none_found (has_key (selector_key b t)) rs
    (λ r m. cases (has_key (selector_key b t) r) (λ e. absurd (none_of r m (has_kind (selector_key b t) r (omega arith) e))) (λ f. f)))

-- A layout of length 0 or 1 is a former one with its zero.
shrunk : List ℕ → List ℕ
shrunk r = cond (eqb (record_kind r) layout_kind) (take former_key_size r ++ drop (suc former_key_size) r) r

grown_shrunk : (r : List ℕ) → record_kind r ≡ layout_kind → former_key_size < length r → get_or r former_key_size 0 ≡ 0 → grown (shrunk r) ≡ r
unfolding shrunk
grown_shrunk r kind whole zeros =
    let key : List ℕ = take former_key_size r in
    let rest : List ℕ = drop (suc former_key_size) r in
    let size : length key ≡ former_key_size = length-take-le former_key_size r (omega arith) in
    let still : record_kind (key ++ rest) ≡ layout_kind =
    get_or-append key rest 0 0 (omega (arith, size)) ∙ get_or-take former_key_size r 0 0 (omega arith) ∙ kind in
    let back : drop former_key_size r ≡ 0 ∷ rest = drop-cons r former_key_size 0 whole ∙ ap (λ (b : ℕ). b ∷ rest) zeros in
    ap grown (rw (eq-eqb (record_kind r) layout_kind kind))
    ∙ grown_layout (key ++ rest) still
    ∙ (λ i. take_at key rest former_key_size size i ++ 0 ∷ drop_at key rest former_key_size size i)
    ∙ ap (λ (l : List ℕ). key ++ l) (sym back)
    ∙ take-append-drop former_key_size r

shrunk_back : (r : List ℕ) → Sound r → (record_kind r ≡ layout_kind → selector_length r ≤ usual_length) → grown (shrunk r) ≡ r
unfolding shrunk
shrunk_back r sound few =
    cases (eqb (record_kind r) layout_kind)
    (λ t.
    let kind : record_kind r ≡ layout_kind = eqb-true _ _ t in
    let fits = layout_has r kind sound.range in
    let last = zero_from (selector_bytes r) (selector_length r) 1 fits.unused (few kind) in
    grown_shrunk r kind (omega (arith, sound.whole, ap record_size kind, layout_size)) last)
    (λ f. ap grown (rw f) ∙ grown_other r (eqb-false _ _ f))

all_back : (rs : List (List ℕ)) → ((r : List ℕ) → Memᴰ r rs → grown (shrunk r) ≡ r) → map grown (map shrunk rs) ≡ rs
all_back [] h = refl
all_back (r ∷ rs) h = λ i. h r (Memᴰ.head refl) i ∷ all_back rs (λ q m. h q (Memᴰ.tail m)) i

-- A layout that is sound with its zero, and has a selector of at most one byte, is of the former form.
kind_kept : (l : List ℕ) → record_kind l ≡ layout_kind → record_kind (grown l) ≡ layout_kind
kind_kept [] e = absurd (omega (arith, e))
kind_kept (b ∷ l) e = ap record_kind (grown_layout (b ∷ l) e) ∙ e

length_grown : (l : List ℕ) → record_kind l ≡ layout_kind → length (grown l) ≡ suc (length l)
length_grown l e =
    let key : List ℕ = take former_key_size l in
    let rest : List ℕ = drop former_key_size l in
    omega (
      arith,
      ap length (grown_layout l e),
      length-append key (gained ∷ rest),
      length-append key rest,
      ap length (take-append-drop former_key_size l),
    )

of_former_form : (l : List ℕ) → record_kind l ≡ layout_kind → Sound (grown l) → selector_length (grown l) ≤ usual_length → FormerLayout l
unfolding selector_fits
of_former_form l e sound few =
    let g : List ℕ = grown l in
    let kind : record_kind g ≡ layout_kind = kind_kept l e in
    let fits = layout_has g kind sound.range in
    let whole : length l ≡ former_size = omega (arith, sound.whole, ap record_size kind, layout_size, length_grown l e) in
    let key : List ℕ = take former_key_size l in
    let size : length key ≡ former_key_size = length-take-le former_key_size l (omega (arith, whole)) in
    let before : (i : ℕ) → i < former_key_size → get_or g i 0 ≡ get_or l i 0 =
    (λ i h.
    ap (λ (r : List ℕ). get_or r i 0) (grown_layout l e)
    ∙ get_or-append key (gained ∷ drop former_key_size l) 0 i (omega (arith, size, h))
    ∙ get_or-take former_key_size l i 0 h) in
    let behind : (m : ℕ) → former_key_size ≤ m → get_or g (suc m) 0 ≡ get_or l m 0 = further l e (omega (arith, whole)) in
    let count : layout_count g ≡ get_or l 5 0 = behind 5 (omega arith) in
    record {
      kind = e;
      whole = whole;
      header =
          (λ i. header_fits (sym (before 1 (omega arith)) i) (sym (before 2 (omega arith)) i))
          ∙ (both (header_fits (get_or g 1 0) (get_or g 2 0)) (leb (selector_length g) most_selector) fits.selector).0;
      present = omega (arith, few, before 3 (omega arith));
      absent =
          λ h.
          sym (before 4 (omega arith))
          ∙ zero_from (selector_bytes g) (selector_length g) 0 fits.unused (omega (arith, before 3 (omega arith), h));
      count = omega (arith, leb-true (layout_count g) most_prns fits.count, count);
      unused =
          λ i h.
          sym (behind i (omega (arith, h)))
          ∙ zero_from g (prns_at + layout_count g * 2) (suc i) fits.rest (omega (arith, h, count));
    }

-- The records of an accepted supplement whose layouts are as they were are former ones with their zeros,
pub former_records : (s : List ℕ) → Accepted s → AsFormer s → (rs : List (List ℕ)) × (records_of s ≡ map grown rs)
former_records s e f =
    (map shrunk (records_of s), sym (all_back (records_of s) (λ r m. shrunk_back r ((good s e).each r m) (f.layouts r m))))

-- and of these the layouts are of the former form.
pub former_forms :
    (s : List ℕ)
    → Accepted s
    → AsFormer s
    → (rs : List (List ℕ))
    → records_of s ≡ map grown rs
    → (l : List ℕ)
    → Memᴰ l rs
    → record_kind l ≡ layout_kind
    → FormerLayout l
former_forms s a f rs e l m kind =
    let stands : Stands (grown l) s = subst (Memᴰ (grown l)) (sym e) (Memᴰ.map grown m) in
    of_former_form l kind ((good s a).each (grown l) stands) (f.layouts (grown l) stands (kind_kept l kind))
