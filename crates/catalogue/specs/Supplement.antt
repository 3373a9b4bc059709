-- A supplement as its records, and its test: document 01, refusals 10 to 15; two supplements compared: demand 3, document 02, K5.
use Rattle.std.specs.Prelude.{ℕ, zero, suc, ◌+◌, ◌≤◌, ◌≡◌, true, false, cond, eqb, ltb, length, take, drop, Result, Ok, Err}
use mathlib.Core.List.{List, [], ◌∷◌, ◌++◌, Memᴰ}
use Rattle.catalogue.specs.declared.refusal.Fault.{Fault}
use Rattle.frame.specs.Refusal.{no_refusal}
use Rattle.catalogue.specs.Refusal.{supplement_too_long, number_of}
use Rattle.catalogue.specs.Kind.{layout_kind, selector_kind, record_size, known}
use Rattle.catalogue.specs.Record.{record_kind, key_of, header_in, in_range, in_sae, fault}

-- The records one after the other: an unknown kind is one byte, and a record that the end cuts is what there is of it. No record is
-- empty, so as many turns as bytes are enough.
unfoldable pub records_in : ℕ → List ℕ → List (List ℕ)
records_in zero s = []
records_in (suc n) [] = []
records_in (suc n) (k ∷ s) = take (record_size k) (k ∷ s) ∷ records_in n (drop (record_size k) (k ∷ s))

unfoldable pub records_of : List ℕ → List (List ℕ)
records_of s = records_in (length s) s

-- What a test tells: a refusal's number, 0 for none, and the place of the record with the fault.
pub record Checked : Type 0 where
  pub refusal : ℕ
  pub place : ℕ

-- The first record with a fault gives its number and its place.
unfoldable pub check_from : List (List ℕ) → ℕ → List (List ℕ) → Checked
check_from seen at [] = record { refusal = no_refusal; place = 0 }
check_from seen at (r ∷ rs) =
    cond (eqb (fault seen r) no_refusal) (check_from (seen ++ r ∷ []) (at + length r) rs) (record { refusal = fault seen r; place = at })

-- "supplement over 16,384 bytes"
abbrev pub largest_supplement : ℕ
largest_supplement = 16384

unfoldable pub check : List ℕ → Checked
check s = cond (ltb largest_supplement (length s)) (record { refusal = supplement_too_long; place = 0 }) (check_from [] 0 (records_of s))

-- What the call's answer tells.
abbrev pub checked_of : {A : Type 0} → Result A Fault → Checked
checked_of (Ok a) = record { refusal = no_refusal; place = 0 }
checked_of (Err f) = record { refusal = number_of f.refusal; place = f.place }

-- "A frame is accepted if none of the reader's refusals applies to it, a supplement if none of 10 to 15 does."
abbrev pub Accepted : List ℕ → Type 0
Accepted s = (check s).refusal ≡ no_refusal

-- What makes a list of records good, said without an order: each record by itself,
pub record Sound (r : List ℕ) : Type 0 where
  pub known : known (record_kind r) ≡ true
  pub whole : length r ≡ record_size (record_kind r)
  pub range : in_range r ≡ true
  pub new : in_sae r ≡ false

-- and no two with the same kind and key.
abbrev pub Distinct : List (List ℕ) → Type 0
Distinct [] = Unit {0}
Distinct (r ∷ rs) = ((q : List ℕ) → Memᴰ q rs → key_of q ≡ key_of r → ⊥) × Distinct rs

pub record Good (rs : List (List ℕ)) : Type 0 where
  pub each : (r : List ℕ) → Memᴰ r rs → Sound r
  pub keys : Distinct rs

-- The rules of an accepted supplement: its size, and its records.
pub record SupplementObeys (s : List ℕ) : Type 0 where
  pub size : length s ≤ largest_supplement
  pub records : Good (records_of s)

-- "A record stands in a supplement if one of the supplement's records has its kind and its body, byte for byte."
abbrev pub Stands : List ℕ → List ℕ → Type 0
Stands r s = Memᴰ r (records_of s)

-- "every record of the first standing in the second too"
abbrev pub Among : List ℕ → List ℕ → Type 0
Among s t = (r : List ℕ) → Stands r s → Stands r t

-- "the second supplement has no kind 4 record for any header for which the first has a layout, except those that the first has too",
-- said of the records of both.
abbrev pub NoNewSelector : List (List ℕ) → List (List ℕ) → Type 0
NoNewSelector rs qs =
    (r layout : List ℕ)
    → Memᴰ r qs
    → record_kind r ≡ selector_kind
    → Memᴰ layout rs
    → record_kind layout ≡ layout_kind
    → header_in r ≡ header_in layout
    → Memᴰ r rs

-- No record is cut by the end.
abbrev pub Whole : List ℕ → Type 0
Whole s = (r : List ℕ) → Stands r s → length r ≡ record_size (record_kind r)
