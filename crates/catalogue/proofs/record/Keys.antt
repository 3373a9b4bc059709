-- Laws of keys: what a kind and key finds in a list of records.
use Rattle.std.proofs.Common.{Some, is_some}
use mathlib.Core.Path.{◌≡◌, refl, sym, ap, ◌∙◌}
use mathlib.Core.Bool.{true, false, true≢false}
use mathlib.Core.List.{List, [], ◌∷◌, ◌++◌, Memᴰ}
use Prim.Native.Nat.{ℕ, zero, suc, ◌≤◌, ◌<◌}
use native.Mathlib.Omega.{arith}
use borrow.Author.Tests.{eq-eqb, eqb-true}
use lib.Dec.{eqb}
use lib.ListN.{length, take, get_or}
use lib.Seq.{get_or-take, length-take-le}
use Rattle.frame.proofs.bytes.Laws.{cases}
use Rattle.catalogue.specs.Kind.{record_size, key_size, known}
use Rattle.catalogue.specs.Record.{record_kind, key_of, has_key, record_with, FullKey}
use Rattle.catalogue.proofs.search.Laws.{both, found_is, none_is, none_found, not_found}
use Rattle.catalogue.proofs.kind.Laws.{key_within, known_key}

-- A record starts with its own key, and a record that starts with a key has that key and its kind.
has_taken : (n : ℕ) (r : List ℕ) → has_key (take n r) r ≡ true
unfolding has_key
has_taken zero r = refl
has_taken (suc n) [] = refl
has_taken (suc n) (b ∷ r) = rw (eq-eqb b b refl) (has_taken n r)

pub has_is : (key r : List ℕ) → has_key key r ≡ true → take (length key) r ≡ key
unfolding has_key
has_is [] r e = refl
has_is (k ∷ key) [] e = absurd (true≢false (sym e))
has_is (k ∷ key) (b ∷ r) e =
    let t = both (eqb k b) (has_key key r) e in
    λ i. sym (eqb-true k b t.0) i ∷ has_is key r t.1 i

-- A record that has the whole of a key has the start of it, and each byte of the key at its place.
pub has_start : (start rest r : List ℕ) → has_key start r ≡ false → has_key (start ++ rest) r ≡ false
unfolding has_key
has_start [] rest r e = absurd (true≢false e)
has_start (k ∷ start) rest [] e = refl
has_start (k ∷ start) rest (b ∷ r) e = cases (eqb k b) (λ t. rw t (has_start start rest r (sym (rw t) ∙ e))) (λ f. rw f)

pub has_byte : (key r : List ℕ) (i : ℕ) → i < length key → has_key key r ≡ true → get_or r i 0 ≡ get_or key i 0
has_byte key r i h e = sym (get_or-take (length key) r i 0 h) ∙ ap (λ (l : List ℕ). get_or l i 0) (has_is key r e)

pub has_kind : (key r : List ℕ) → 0 < length key → has_key key r ≡ true → record_kind r ≡ record_kind key
has_kind key r h e = has_byte key r 0 h e

pub key_is_lem : (key r : List ℕ) → FullKey key → has_key key r ≡ true → key_of r ≡ key
key_is_lem key r f e =
    ap (λ (k : ℕ). take (key_size k) r) (has_kind key r f.kind e)
    ∙ ap (λ (n : ℕ). take n r) (sym f.size)
    ∙ has_is key r e

-- The key of a whole record of a known kind is a whole key.
pub own_key : (r : List ℕ) → known (record_kind r) ≡ true → record_size (record_kind r) ≤ length r → FullKey (key_of r)
own_key r known whole =
    let k : ℕ = record_kind r in
    let one = known_key k known in
    let size : length (key_of r) ≡ key_size k = length-take-le (key_size k) r (omega (arith, key_within k)) in
    record {
      kind = omega arith;
      size = size ∙ ap key_size (sym (get_or-take (key_size k) r 0 0 one));
    }

-- What is found has the key and stands in the list.
pub found_record : (key : List ℕ) (rs : List (List ℕ)) (r : List ℕ) → record_with key rs ≡ Some r → (has_key key r ≡ true) × Memᴰ r rs
unfolding record_with
found_record key rs r e = found_is (has_key key) rs r e

-- A record is new after those seen exactly when none of them has its key.
module _ (seen : List (List ℕ)) (r : List ℕ) where
  pub new_differs : is_some (record_with (key_of r) seen) ≡ false → (q : List ℕ) → Memᴰ q seen → key_of q ≡ key_of r → ⊥
  unfolding record_with
  new_differs e q m same =
      true≢false
      (sym (has_taken (key_size (record_kind q)) q)
      ∙ ap (λ (k : List ℕ). has_key k q) same
      ∙ none_is (has_key (key_of r)) seen (not_found _ e) q m)

pub differs_new :
    (seen : List (List ℕ)) (key : List ℕ)
    → FullKey key
    → ((q : List ℕ) → Memᴰ q seen → key_of q ≡ key → ⊥)
    → is_some (record_with key seen) ≡ false
unfolding record_with
differs_new seen key f d =
    ap is_some
    (none_found (has_key key) seen
    (λ q m. cases (has_key key q) (λ t. absurd (d q m (key_is_lem key q f t))) (λ n. n)))
