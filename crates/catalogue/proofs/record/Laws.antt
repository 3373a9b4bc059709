-- Laws of a record's key and fields.
use Rattle.std.proofs.Common.{is_some}
use mathlib.Core.Path.{◌≡◌, refl, sym, ap, ◌∙◌}
use mathlib.Core.Bool.{Bool, true, false, ◌&&◌}
use mathlib.Core.List.{List, [], ◌∷◌}
use Prim.Native.Nat.{ℕ, zero, suc, ◌+◌, ◌*◌, ◌^◌, ◌≤◌, ◌<◌}
use native.Mathlib.Omega.{arith}
use borrow.Author.Tests.{eq-eqb, ne_eqb, eqb-true, eqb-false}
use lib.Bits.{bit_or, or_add_and, and_le_r}
use lib.Dec.{eqb, leb}
use lib.ListN.{length, take, drop, get_or}
use Rattle.std.specs.List.{starts_with, fold}
use Rattle.frame.specs.Bytes.{Bytes, all_zero}
use Rattle.frame.proofs.bytes.Laws.{cases}
use Rattle.catalogue.specs.Rows.{prn_fits, slot_fits, slot_sized}
use Rattle.catalogue.specs.Sae.{sae_prn, sae_slot}
use Rattle.catalogue.specs.Kind.{slot_kind, prn_kind, layout_kind, selector_kind}
use Rattle.catalogue.specs.Record.{record_kind, has_key, two, four, slot_row, prn_row, numbers, in_range, in_sae}
use Rattle.catalogue.specs.Record.{selector_length, selector_bytes, most_prns, layout_count, prns_at, selector_fits, layout_fits}
use Rattle.catalogue.proofs.search.Laws.{both}
use Rattle.catalogue.proofs.rows.Laws.{sized_slot}

-- Every record starts with the empty key.
pub no_key : (key r : List ℕ) → length key < 1 → true ≡ has_key key r
unfolding has_key
no_key [] r h = refl
no_key (k ∷ key) r h = absurd (omega arith)

-- Where its last byte stands in the record, the key may be compared without it.
pub last_like :
    (key r : List ℕ) (n : ℕ)
    → n + 1 ≡ length key
    → n < length r
    → get_or key n 0 ≡ get_or r n 0
    → has_key key r ≡ starts_with eqb r (take n key)
unfolding has_key
last_like [] r n l h e = absurd (omega arith)
last_like (k ∷ key) [] n l h e = absurd (omega arith)
last_like (k ∷ []) (b ∷ r) zero l h e = rw (eq-eqb k b e)
last_like (k ∷ j ∷ key) (b ∷ r) zero l h e = absurd (omega arith)
last_like (k ∷ key) (b ∷ r) (suc n) l h e = ap (λ (x : Bool). eqb k b && x) (last_like key r n (omega arith) (omega arith) e)

-- A record that ends before a byte of the key, or has another there, does not have the key.
pub key_unlike : (key r : List ℕ) (i : ℕ) → i < length key → (i < length r → get_or key i 0 ≡ get_or r i 0 → ⊥) → has_key key r ≡ false
unfolding has_key
key_unlike [] r i h n = absurd (omega arith)
key_unlike (k ∷ key) [] i h n = refl
key_unlike (k ∷ key) (b ∷ r) zero h n = rw (ne_eqb k b (n (omega arith)))
key_unlike (k ∷ key) (b ∷ r) (suc i) h n =
    cases (eqb k b) (λ t. rw t (key_unlike key r i (omega arith) (λ l e. n (omega arith) e))) (λ f. rw f)

-- Two bytes joined are zero exactly when both are, and so are all.
or_zero : (a b : ℕ) → eqb (bit_or a b) 0 ≡ (eqb a 0 && eqb b 0)
or_zero a b =
    cases (eqb a 0)
    (λ t. let e : a ≡ 0 = eqb-true a 0 t in rw (t, e))
    (λ f. rw f (ne_eqb (bit_or a b) 0 (λ e. eqb-false a 0 f (omega (arith, or_add_and a b, and_le_r a b)))))

joined_zero : (s : List ℕ) (any : ℕ) → eqb (fold bit_or any s) 0 ≡ (eqb any 0 && all_zero s)
joined_zero [] any = cases (eqb any 0) (λ t. rw t) (λ f. rw f)
joined_zero (b ∷ s) any = joined_zero s (bit_or any b) ∙ rw (or_zero any b) (and_assoc (eqb any 0) (eqb b 0) (all_zero s))
  where
    and_assoc : (a b c : Bool) → ((a && b) && c) ≡ (a && (b && c))
    and_assoc true b c = refl
    and_assoc false b c = refl

pub none_joined : (s : List ℕ) → eqb (fold bit_or 0 s) 0 ≡ all_zero s
none_joined s = joined_zero s 0

-- The range test and the SAE test by kind.
module _ (r : List ℕ) where
  pub range_slot : record_kind r ≡ slot_kind → in_range r ≡ slot_fits (slot_row r)
  unfolding in_range
  range_slot e = rw e

  pub range_prn : record_kind r ≡ prn_kind → in_range r ≡ prn_fits (prn_row r)
  unfolding in_range
  range_prn e = rw e

  pub range_layout : record_kind r ≡ layout_kind → in_range r ≡ layout_fits r
  unfolding in_range
  range_layout e = rw e

  pub range_selector : record_kind r ≡ selector_kind → in_range r ≡ selector_fits r
  unfolding in_range
  range_selector e = rw e

  pub range_unknown :
      (record_kind r ≡ slot_kind → ⊥)
      → (record_kind r ≡ prn_kind → ⊥)
      → (record_kind r ≡ layout_kind → ⊥)
      → (record_kind r ≡ selector_kind → ⊥)
      → in_range r ≡ false
  unfolding in_range
  range_unknown a b c d =
      rw (ne_eqb (record_kind r) slot_kind a, ne_eqb (record_kind r) prn_kind b, ne_eqb (record_kind r) layout_kind c, ne_eqb (record_kind r) selector_kind d)

  pub sae_slot_lem : record_kind r ≡ slot_kind → in_sae r ≡ is_some (sae_slot (slot_row r).form (slot_row r).width (slot_row r).number)
  unfolding in_sae
  sae_slot_lem e = rw e

  pub sae_prn_lem : record_kind r ≡ prn_kind → in_sae r ≡ is_some (sae_prn (prn_row r).prn)
  unfolding in_sae
  sae_prn_lem e = rw e

  pub sae_none : (record_kind r ≡ slot_kind → ⊥) → (record_kind r ≡ prn_kind → ⊥) → in_sae r ≡ false
  unfolding in_sae
  sae_none a b = rw (ne_eqb (record_kind r) slot_kind a, ne_eqb (record_kind r) prn_kind b)

-- What a layout in range has.
pub record LayoutHas (r : List ℕ) : Type 0 where
  pub selector : selector_fits r ≡ true
  pub unused : all_zero (drop (selector_length r) (selector_bytes r)) ≡ true
  pub count : leb (layout_count r) most_prns ≡ true
  pub rest : all_zero (drop (prns_at + layout_count r * 2) r) ≡ true

pub layout_has : (r : List ℕ) → record_kind r ≡ layout_kind → in_range r ≡ true → LayoutHas r
unfolding layout_fits
layout_has r kind e =
    let fits = both (selector_fits r) _ (sym (range_layout r kind) ∙ e) in
    let unused = both (all_zero (drop (selector_length r) (selector_bytes r))) _ fits.1 in
    let prns = both (leb (layout_count r) most_prns) (all_zero (drop (prns_at + layout_count r * 2) r)) unused.1 in
    record { selector = fits.0; unused = unused.0; count = prns.0; rest = prns.1 }

-- Zeros from a place on are at each place behind it.
pub zero_from : (r : List ℕ) (n i : ℕ) → all_zero (drop n r) ≡ true → n ≤ i → get_or r i 0 ≡ 0
zero_from [] n i e h = refl
zero_from (b ∷ r) zero zero e h = eqb-true b 0 (both (eqb b 0) (all_zero r) e).0
zero_from (b ∷ r) zero (suc i) e h = zero_from r zero i (both (eqb b 0) (all_zero r) e).1 (omega arith)
zero_from (b ∷ r) (suc n) zero e h = absurd (omega arith)
zero_from (b ∷ r) (suc n) (suc i) e h = zero_from r n i e (omega arith)

-- The numbers of a record one by one.
pub length_numbers : (n i : ℕ) (r : List ℕ) → length (numbers n i r) ≡ n
unfolding numbers
length_numbers zero i r = refl
length_numbers (suc n) i r = ap suc (length_numbers n (i + 2) r)

pub numbers_at : (n i : ℕ) (r : List ℕ) (j : ℕ) → j < n → get_or (numbers n i r) j 0 ≡ two r (i + j * 2)
unfolding numbers
numbers_at zero i r j h = absurd (omega arith)
numbers_at (suc n) i r zero h = let e : i ≡ i + 0 * 2 = omega arith in ap (two r) e
numbers_at (suc n) i r (suc j) h =
    let e : i + 2 + j * 2 ≡ i + suc j * 2 = omega arith in
    numbers_at n (i + 2) r j (omega arith) ∙ ap (two r) e

-- The fields of a record of bytes have their sizes.
module _ (r : List ℕ) (bytes : Bytes r) where
  two_small : (i : ℕ) → two r i < 2 ^ 16
  unfolding two
  two_small i = omega (arith, bytes i, bytes (i + 1))

  four_small : (i : ℕ) → four r i < 2 ^ 32
  unfolding four
  four_small i = omega (arith, two_small i, two_small (i + 2))

  pub slot_row_sized : slot_sized (slot_row r) ≡ true
  unfolding slot_row
  slot_row_sized =
      sized_slot (slot_row r)
      (record {
        number = two_small _;
        multiplier = two_small _;
        divisor = two_small _;
        offset = four_small _;
        lowest = four_small _;
        highest = four_small _;
      })
