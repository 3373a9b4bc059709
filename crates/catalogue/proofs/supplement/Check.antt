-- Laws of the supplement's test.
use Rattle.std.proofs.Common.{is_some}
use mathlib.Core.Path.{◌≡◌, sym, ap, ◌∙◌}
use mathlib.Core.Bool.{true, false, not}
use mathlib.Core.List.{List, [], ◌∷◌, ◌++◌}
use Prim.Native.Nat.{ℕ, zero, suc, ◌+◌, ◌≤◌, ◌<◌}
use native.Mathlib.Nat.{add-zero}
use native.Mathlib.Omega.{arith}
use borrow.Author.Tests.{lt-ltb, le-ltb, ltb-false, eq-eqb, ne_eqb, not-false}
use lib.Dec.{ltb, eqb, lit<}
use lib.ListN.{length, take, drop, get_or, length-take, length-drop, drop_of_length-le}
use lib.Seq.{get_or-take, get_or-drop}
use Rattle.frame.proofs.bytes.Laws.{cases}
use Rattle.frame.proofs.refusal.Laws.{kept, last_kept, none_broken}
use Rattle.catalogue.specs.Refusal.{supplement_too_long}
use Rattle.catalogue.specs.Kind.{record_size, known}
use Rattle.catalogue.specs.Record.{record_kind, key_of, record_with, in_range, in_sae, fault_rules, fault}
use Rattle.catalogue.specs.Supplement.{records_in, records_of, largest_supplement, check_from, check, Whole}
use Rattle.catalogue.specs.Inner.{record_from, test_from}
use Rattle.catalogue.proofs.kind.Laws.{size_positive}
use Rattle.catalogue.proofs.supplement.Laws.{records_nil, records_from, records_more}

-- A record without fault, said without an order.
pub record Free (seen : List (List ℕ)) (r : List ℕ) : Type 0 where
  pub known : known (record_kind r) ≡ true
  pub whole : record_size (record_kind r) ≤ length r
  pub range : in_range r ≡ true
  pub first : is_some (record_with (key_of r) seen) ≡ false
  pub new : in_sae r ≡ false

pub free : (seen : List (List ℕ)) (r : List ℕ) → fault seen r ≡ 0 → Free seen r
unfolding fault fault_rules
free seen r e =
    let eleven = none_broken _ _ e (lit< tt) in
    let twelve = none_broken _ _ eleven.1 (lit< tt) in
    let thirteen = none_broken _ _ twelve.1 (lit< tt) in
    let fourteen = none_broken _ _ thirteen.1 (lit< tt) in
    let fifteen = none_broken _ _ fourteen.1 (lit< tt) in
    record {
      known = not-false (known (record_kind r)) eleven.0;
      whole = ltb-false (length r) (record_size (record_kind r)) twelve.0;
      range = not-false (in_range r) thirteen.0;
      first = fourteen.0;
      new = fifteen.0;
    }

pub faultless : (seen : List (List ℕ)) (r : List ℕ) → Free seen r → fault seen r ≡ 0
unfolding fault fault_rules
faultless seen r f =
    kept _ _ (ap not f.known)
    ∙ kept _ _ (le-ltb (length r) (record_size (record_kind r)) f.whole)
    ∙ kept _ _ (ap not f.range)
    ∙ kept _ _ f.first
    ∙ last_kept _ f.new

-- A record that starts in a supplement has the kind that stands there, and is never longer than its size.
pub from_kind : (s : List ℕ) (at : ℕ) → at < length s → record_kind (record_from s at) ≡ get_or s at 0
from_kind s at h =
    get_or-take (record_size (get_or s at 0)) (drop at s) 0 0 (size_positive (get_or s at 0))
    ∙ get_or-drop at s 0 0
    ∙ ap (λ (i : ℕ). get_or s i 0) (add-zero at)

pub from_whole :
    (s : List ℕ) (at : ℕ)
    → at < length s
    → record_size (record_kind (record_from s at)) ≤ length (record_from s at)
    → length (record_from s at) ≡ record_size (record_kind (record_from s at))
from_whole s at h l =
    omega (arith, length-take (record_size (get_or s at 0)) (drop at s), ap record_size (from_kind s at h))

module _ (s : List ℕ) where
  pub check_over : largest_supplement < length s → check s ≡ record { refusal = supplement_too_long; place = 0 }
  unfolding check
  check_over h = rw (lt-ltb largest_supplement (length s) h)

  pub check_start : length s ≤ largest_supplement → check s ≡ test_from s 0
  unfolding check
  check_start h = rw (le-ltb largest_supplement (length s) h) (ap (λ (rs : List (List ℕ)). check_from rs 0 (records_of s)) (sym records_nil))

  pub check_fault :
      (at : ℕ)
      → at < length s
      → (fault (records_of (take at s)) (record_from s at) ≡ 0 → ⊥)
      → test_from s at ≡ record { refusal = fault (records_of (take at s)) (record_from s at); place = at }
  unfolding check_from
  check_fault at h n =
      ap (check_from (records_of (take at s)) at) (records_from s at h) ∙ rw (ne_eqb (fault (records_of (take at s)) (record_from s at)) 0 n)

  pub check_next :
      (at : ℕ)
      → at < length s
      → Whole (take at s)
      → fault (records_of (take at s)) (record_from s at) ≡ 0
      → test_from s at ≡ test_from s (at + length (record_from s at))
  unfolding check_from
  check_next at h w e =
      let end : ℕ = at + length (record_from s at) in
      let whole = from_whole s at h (free (records_of (take at s)) (record_from s at) e).whole in
      ap (check_from (records_of (take at s)) at) (records_from s at h)
      ∙ rw (eq-eqb (fault (records_of (take at s)) (record_from s at)) 0 e)
      (ap (λ (rs : List (List ℕ)). check_from rs end (records_of (drop end s))) (sym (records_more s at h w whole)))

  pub check_end : (at : ℕ) → length s ≤ at → test_from s at ≡ record { refusal = 0; place = 0 }
  unfolding check_from
  check_end at h =
      ap (check_from (records_of (take at s)) at) (ap records_of (drop_of_length-le s {i = at} h) ∙ records_nil)

-- A place lies within the supplement, and so within what is accepted by size.
total : List (List ℕ) → ℕ
total [] = 0
total (r ∷ rs) = length r + total rs

total_in : (n : ℕ) (s : List ℕ) → total (records_in n s) ≤ length s
unfolding total records_in
total_in zero s = omega arith
total_in (suc n) [] = omega arith
total_in (suc n) (k ∷ s) =
    omega (arith, total_in n (drop (record_size k) (k ∷ s)), length-take (record_size k) (k ∷ s), length-drop (record_size k) (k ∷ s))

place_in : (seen : List (List ℕ)) (at : ℕ) (rs : List (List ℕ)) → (check_from seen at rs).place ≤ at + total rs
unfolding check_from total
place_in seen at [] = omega arith
place_in seen at (r ∷ rs) =
    cases (eqb (fault seen r) 0)
    (λ t. rw t (omega (arith, place_in (seen ++ r ∷ []) (at + length r) rs)))
    (λ f. rw f (omega arith))

pub place_small : (s : List ℕ) → (check s).place ≤ largest_supplement
unfolding check records_of
place_small s =
    cases (ltb largest_supplement (length s)) (λ t. rw t (omega arith))
    (λ f. rw f (omega (arith, place_in [] 0 (records_of s), total_in (length s) s, ltb-false largest_supplement (length s) f)))
