-- Laws of a supplement as its records.
use Rattle.std.proofs.Common.{None, Some}
use mathlib.Core.Path.{◌≡◌, refl, sym, ap, ◌∙◌, subst}
use mathlib.Core.Logic.{⊎_elim}
use mathlib.Core.Bool.{true, false}
use mathlib.Core.List.Memᴰ
use mathlib.Core.List.{List, [], ◌∷◌, ◌++◌, Memᴰ}
use Prim.Native.Nat.{ℕ, zero, suc, min, ◌+◌, ◌-◌, ◌≤◌, ◌<◌}
use native.Mathlib.Nat.{add-zero}
use native.Mathlib.Omega.{arith}
use borrow.Author.Tests.{leb-true, leb-false}
use lib.Dec.{leb}
use lib.ListN.{length, take, drop, get_or, length-drop, length-take, drop_of_length-le}
use lib.Seq.{take-append-le, drop-append-le, take-length, drop-length, length-take-le, take_all, drop-drop, take-add, get_or-drop, get_or-take}
use Rattle.frame.specs.Bytes.{Bytes}
use Rattle.frame.proofs.bytes.Laws.{cases, bytes_take}
use Rattle.catalogue.specs.Search.{first_where}
use Rattle.catalogue.specs.Kind.{record_size}
use Rattle.catalogue.specs.Record.{record_kind, has_key, record_with}
use Rattle.catalogue.specs.Supplement.{records_in, records_of, Whole}
use Rattle.catalogue.specs.Inner.{record_from}
use Rattle.catalogue.proofs.kind.Laws.{size_positive}

-- More turns than bytes change nothing.
enough : (n m : ℕ) (s : List ℕ) → length s ≤ n → length s ≤ m → records_in n s ≡ records_in m s
unfolding records_in
enough zero zero s a b = refl
enough zero (suc m) [] a b = refl
enough zero (suc m) (k ∷ s) a b = absurd (omega arith)
enough (suc n) zero [] a b = refl
enough (suc n) zero (k ∷ s) a b = absurd (omega arith)
enough (suc n) (suc m) [] a b = refl
enough (suc n) (suc m) (k ∷ s) a b =
    let less : length (drop (record_size k) (k ∷ s)) ≤ length s = omega (arith, length-drop (record_size k) (k ∷ s), size_positive k) in
    ap (λ (rs : List (List ℕ)). take (record_size k) (k ∷ s) ∷ rs)
    (enough n m (drop (record_size k) (k ∷ s)) (omega arith) (omega arith))

pub records_nil : records_of [] ≡ []
unfolding records_of records_in
records_nil = refl

-- The records of a run that is not empty: its first record, and those of the rest.
pub records_cons :
    (s : List ℕ) → 0 < length s → records_of s ≡ take (record_size (record_kind s)) s ∷ records_of (drop (record_size (record_kind s)) s)
unfolding records_of records_in
records_cons [] h = absurd (omega arith)
records_cons (k ∷ s) h =
    let rest : List ℕ = drop (record_size k) (k ∷ s) in
    ap (λ (rs : List (List ℕ)). take (record_size k) (k ∷ s) ∷ rs)
    (enough (length s) (length rest) rest (omega (arith, length-drop (record_size k) (k ∷ s), size_positive k)) (omega arith))

-- As many elements as were taken are the same ones, and the same are left.
taken : (n : ℕ) (s : List ℕ) → (take n s ≡ take (length (take n s)) s) × (drop n s ≡ drop (length (take n s)) s)
taken n s =
    cases (leb n (length s))
    (λ t.
    let e = sym (length-take-le n s (leb-true n (length s) t)) in
    (ap (λ (m : ℕ). take m s) e, ap (λ (m : ℕ). drop m s) e))
    (λ f.
    let l : length s < n = leb-false n (length s) f in
    let whole : take n s ≡ s = take_all n s (omega arith) in (
      whole ∙ sym (ap (λ (t : List ℕ). take (length t) s) whole ∙ take-length s),
      drop_of_length-le s {i = n} (omega arith) ∙ sym (ap (λ (t : List ℕ). drop (length t) s) whole ∙ drop-length s),
    ))

-- The first record as it is cut off, no longer than what there is.
pub records_cut :
    (s : List ℕ) (n : ℕ)
    → 0 < length s
    → n ≡ min (record_size (get_or s 0 0)) (length s)
    → records_of s ≡ take n s ∷ records_of (drop n s)
records_cut s n h e =
    let size : length (take (record_size (record_kind s)) s) ≡ n = length-take (record_size (record_kind s)) s ∙ sym e in
    let parts = taken (record_size (record_kind s)) s in
    records_cons s h
    ∙ (λ i. (parts.0 ∙ ap (λ (m : ℕ). take m s) size) i ∷ records_of ((parts.1 ∙ ap (λ (m : ℕ). drop m s) size) i))

pub records_none : (s : List ℕ) → length s ≡ 0 → records_of s ≡ []
records_none [] e = records_nil
records_none (k ∷ s) e = absurd (omega arith)

-- The records from a place on: the one that starts there, and those behind it.
pub records_from :
    (s : List ℕ) (at : ℕ)
    → at < length s
    → records_of (drop at s) ≡ record_from s at ∷ records_of (drop (at + length (record_from s at)) s)
records_from s at h =
    let byte : record_kind (drop at s) ≡ get_or s at 0 = get_or-drop at s 0 0 ∙ ap (λ (i : ℕ). get_or s i 0) (add-zero at) in
    records_cons (drop at s) (omega (arith, length-drop at s))
    ∙ (λ i. take (record_size (byte i)) (drop at s) ∷ records_of (drop (record_size (byte i)) (drop at s)))
    ∙ ap (λ (t : List ℕ). record_from s at ∷ records_of t)
    ((taken (record_size (get_or s at 0)) (drop at s)).1 ∙ drop-drop (length (record_from s at)) at s)

pub from_length : (s : List ℕ) (at : ℕ) → at < length s → (0 < length (record_from s at)) × (at + length (record_from s at) ≤ length s)
from_length s at h =
    omega (arith, length-take (record_size (get_or s at 0)) (drop at s), length-drop at s, size_positive (get_or s at 0))

pub whole_nil : Whole []
whole_nil r m = absurd (Memᴰ.not-nil (subst (Memᴰ r) records_nil m))

-- A whole record by itself.
pub records_one : (r : List ℕ) → length r ≡ record_size (record_kind r) → records_of r ≡ r ∷ []
records_one r e =
    records_cons r (omega (arith, size_positive (record_kind r)))
    ∙ (λ i. take (e' i) r ∷ records_of (drop (e' i) r))
    ∙ (λ i. take-length r i ∷ records_of (drop-length r i))
    ∙ ap (λ (rs : List (List ℕ)). r ∷ rs) records_nil
  where
    e' : record_size (record_kind r) ≡ length r
    e' = sym e

-- The records of two runs one behind the other, the first whole.
Joins : List ℕ → List ℕ → Type 0
Joins p q = records_of (p ++ q) ≡ records_of p ++ records_of q

join_nil : (q : List ℕ) → Joins [] q
unfolding Joins
join_nil q = sym (ap (λ (rs : List (List ℕ)). rs ++ records_of q) records_nil)

join_cons :
    (n : ℕ) (p q : List ℕ)
    → length p ≤ suc n
    → Whole p
    → ((t : List ℕ) → length t ≤ n → Whole t → Joins t q)
    → Joins p q
unfolding Joins
join_cons n [] q h w below = join_nil q
join_cons n (k ∷ p) q h w below =
    let z : ℕ = record_size k in
    let parts = records_cons (k ∷ p) (omega arith) in
    let first : length (take z (k ∷ p)) ≡ record_size (record_kind (take z (k ∷ p))) =
    w (take z (k ∷ p)) (subst (Memᴰ (take z (k ∷ p))) (sym parts) (Memᴰ.head refl)) in
    let kind : record_kind (take z (k ∷ p)) ≡ k = get_or-take z (k ∷ p) 0 0 (size_positive k) in
    let fits : z ≤ length (k ∷ p) = omega (arith, length-take z (k ∷ p), first, ap record_size kind) in
    records_cons (k ∷ (p ++ q)) (omega arith)
    ∙ (λ i. take-append-le z (k ∷ p) q fits i ∷ records_of (drop-append-le z (k ∷ p) q fits i))
    ∙ ap (λ (rs : List (List ℕ)). take z (k ∷ p) ∷ rs)
    (below (drop z (k ∷ p)) (omega (arith, length-drop z (k ∷ p), size_positive k)) (λ r m. w r (subst (Memᴰ r) (sym parts) (Memᴰ.tail m))))
    ∙ ap (λ (rs : List (List ℕ)). rs ++ records_of q) (sym parts)

joins : (n : ℕ) (p q : List ℕ) → length p ≤ n → Whole p → Joins p q
joins zero [] q h w = join_nil q
joins zero (k ∷ p) q h w = absurd (omega arith)
joins (suc n) p q h w = join_cons n p q h w (λ t l v. joins n t q l v)

pub records_append : (p q : List ℕ) → Whole p → records_of (p ++ q) ≡ records_of p ++ records_of q
unfolding Joins
records_append p q w = joins (length p) p q (omega arith) w

-- One whole record more.
module _ (s : List ℕ) (at : ℕ) (h : at < length s) (w : Whole (take at s)) (e : length (record_from s at) ≡ record_size (record_kind (record_from s at))) where
  pub records_more : records_of (take (at + length (record_from s at)) s) ≡ records_of (take at s) ++ record_from s at ∷ []
  records_more =
      let n : ℕ = length (record_from s at) in
      let part : take n (drop at s) ≡ record_from s at = sym (taken (record_size (get_or s at 0)) (drop at s)).0 in
      ap records_of (take-add at n s ∙ ap (λ (t : List ℕ). take at s ++ t) part)
      ∙ records_append (take at s) (record_from s at) w
      ∙ ap (λ (rs : List (List ℕ)). records_of (take at s) ++ rs) (records_one (record_from s at) e)

  pub whole_more : Whole (take (at + length (record_from s at)) s)
  whole_more r m =
      ⊎_elim (w r) (λ t. let f = Memᴰ.eq_of_singleton t in ap length f ∙ e ∙ ap (λ (q : List ℕ). record_size (record_kind q)) (sym f))
      (Memᴰ.append_cases (records_of (take at s)) (subst (Memᴰ r) records_more m))

-- The part from a place to the end of the record there is that record.
pub from_part : (s : List ℕ) (at : ℕ) {e : ℕ} → e ≡ at + length (record_from s at) → take (e - at) (drop at s) ≡ record_from s at
from_part s at {e = e} p =
    let n : e - at ≡ length (record_from s at) = omega (arith, p) in
    ap (λ (m : ℕ). take m (drop at s)) n ∙ sym (taken (record_size (get_or s at 0)) (drop at s)).0

-- The end of a record lies behind its place, within the supplement.
pub onward : (s : List ℕ) (at : ℕ) → at < length s → {e : ℕ} → e ≡ at + length (record_from s at) → (at < e) × (e ≤ length s)
onward s at h p = omega (arith, p, from_length s at h)

-- The search from a place on: found there, or sought behind it, or at the end.
module _ (key s : List ℕ) (at : ℕ) where
  pub search_hit : at < length s → has_key key (record_from s at) ≡ true → record_with key (records_of (drop at s)) ≡ Some (record_from s at)
  unfolding record_with first_where
  search_hit h e = ap (record_with key) (records_from s at h) ∙ rw e

  pub search_miss :
      at < length s
      → has_key key (record_from s at) ≡ false
      → record_with key (records_of (drop at s)) ≡ record_with key (records_of (drop (at + length (record_from s at)) s))
  unfolding record_with first_where
  search_miss h e = ap (record_with key) (records_from s at h) ∙ rw e

  pub search_end : length s ≤ at → record_with key (records_of (drop at s)) ≡ None
  unfolding record_with first_where
  search_end h = ap (λ (t : List ℕ). record_with key (records_of t)) (drop_of_length-le s {i = at} h) ∙ ap (record_with key) records_nil

-- The records of a run of bytes are bytes.
bytes_in : (n : ℕ) (s : List ℕ) → Bytes s → (r : List ℕ) → Memᴰ r (records_in n s) → Bytes r
unfolding records_in
bytes_in zero s b r m = absurd (Memᴰ.not-nil m)
bytes_in (suc n) [] b r m = absurd (Memᴰ.not-nil m)
bytes_in (suc n) (k ∷ s) b r m =
    ⊎_elim
    (λ (h : r ≡ take (record_size k) (k ∷ s)). subst Bytes (sym h) (bytes_take (k ∷ s) (record_size k) b))
    (λ (t : Memᴰ r (records_in n (drop (record_size k) (k ∷ s)))).
    bytes_in n (drop (record_size k) (k ∷ s)) (λ i. rw (get_or-drop (record_size k) (k ∷ s) i 0) (b (record_size k + i))) r t)
    (Memᴰ.cases_cons m)

pub record_bytes : (s : List ℕ) → Bytes s → (r : List ℕ) → Memᴰ r (records_of s) → Bytes r
unfolding records_of
record_bytes s b r m = bytes_in (length s) s b r m
