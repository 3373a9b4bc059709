-- Laws of the lookups: what the layers above cite.
use Rattle.std.specs.Option.{option_or}
use Rattle.std.proofs.lemmas.Option.{none-some}
use Rattle.std.proofs.Common.{Option, None, Some, option_map}
use mathlib.Core.Path.{◌≡◌, refl, sym, ap, ◌∙◌, subst}
use mathlib.Core.Bool.{true}
use mathlib.Core.List.{List, Memᴰ}
use Prim.Native.Nat.{ℕ, ◌-◌, ◌≤◌, ◌<◌}
use native.Mathlib.Omega.{arith}
use lib.ListN.{length, take, replicate, length-take, length-append, length-replicate}
use lib.Seq.{length-take-le}
use Rattle.frame.specs.Bytes.{Bytes}
use Rattle.catalogue.specs.declared.rows.PrnRow.{PrnRow}
use Rattle.catalogue.specs.declared.rows.SlotRow.{SlotRow}
use Rattle.catalogue.specs.Rows.{prn_fits, slot_fits, slot_sized}
use Rattle.catalogue.specs.Sae.{sae_prn, sae_slot}
use Rattle.catalogue.specs.Record.{record_kind, record_with, FullKey, prn_row, slot_row, in_range}
use Rattle.catalogue.specs.Record.{LayoutRow, most_prns, prns_at, layout_places, layout_row}
use Rattle.catalogue.specs.Supplement.{Good, records_of}
use Rattle.catalogue.specs.Lookup.{prn_key, slot_key, selector_key, layout_key, catalogue_of, catalogue, prns_used, in_sixteen}
use Rattle.catalogue.proofs.rows.Laws.{sized_slot}
use Rattle.catalogue.proofs.sae.Laws.{sae_prn_fits, sae_slot_fits}
use Rattle.catalogue.proofs.kind.Laws.{key_sizes}
use Rattle.catalogue.proofs.record.Laws.{length_numbers, range_slot, range_prn, slot_row_sized}
use Rattle.catalogue.proofs.record.Keys.{has_byte, has_kind, found_record}

-- A layout's row has the first PRNs of sixteen.
sixteen : (r : List ℕ) → length (layout_row r).prns ≤ most_prns
unfolding layout_row
sixteen r = simp length-take (omega (arith, length_numbers most_prns prns_at r))

used_length : (n : ℕ) (r : List ℕ) → n ≤ most_prns → length (prns_used n r) ≡ most_prns
unfolding prns_used
used_length n r h =
    let first : List ℕ = take n (layout_places r) in
    let size : length first ≡ n = length-take-le n (layout_places r) (omega (arith, length_numbers most_prns prns_at r)) in
    omega (arith, length-append first (replicate (most_prns - n) 0), size, length-replicate {A = ℕ} (most_prns - n) 0)

room : (prns : List ℕ) → length prns ≤ most_prns → length (in_sixteen prns) ≡ most_prns
unfolding in_sixteen
room prns h =
    omega (arith, h, length-append prns (replicate (most_prns - length prns) 0), length-replicate {A = ℕ} (most_prns - length prns) 0)

-- The row of a layout's answer is the catalogue's.
pub layout_told : (s key : List ℕ) → option_map layout_row (record_with key (records_of s)) ≡ (catalogue s).layout key
unfolding catalogue_of
layout_told s key = refl

-- At most sixteen PRNs, in room for sixteen, and none where there is no layout.
pub layout_sized :
    (o : Option (List ℕ))
    → ((l : LayoutRow) → option_map layout_row o ≡ Some l → (length l.prns ≤ most_prns) × (length (in_sixteen l.prns) ≡ most_prns))
    × ((n : ℕ) (r : List ℕ) → n ≤ most_prns → length (prns_used n r) ≡ most_prns)
    × (o ≡ None → option_map layout_row o ≡ None)
unfolding layout_row
layout_sized None = (λ l h. absurd (none-some l h), used_length, λ e. refl)
layout_sized (Some r) = (
  λ l h.
      let same : layout_row r ≡ l = cc in
      subst (λ (q : LayoutRow). (length q.prns ≤ most_prns) × (length (in_sixteen q.prns) ≡ most_prns)) same
      (sixteen r, room (layout_row r).prns (sixteen r)),
  used_length,
  λ e. ap (option_map layout_row) e,
)

-- The SAE row stands, whatever the record.
pub sae_stands : {A : Type 0} (row : List ℕ → A) {o : Option A} (p : Option (List ℕ)) {a : A} → o ≡ Some a → Some a ≡ option_or o (option_map row p)
sae_stands row p e = sym (ap (λ (q : Option _). option_or q (option_map row p)) e)

-- The keys sought are as long as their kinds say.
pub prn_key_full : (p : ℕ) → FullKey (prn_key p)
prn_key_full p = record { kind = omega arith; size = sym key_sizes.1 }

pub slot_key_full : (f w n : ℕ) → FullKey (slot_key f w n)
slot_key_full f w n = record { kind = omega arith; size = sym key_sizes.0 }

pub selector_key_full : (b t : ℕ) → FullKey (selector_key b t)
selector_key_full b t = record { kind = omega arith; size = sym key_sizes.3 }

pub layout_key_full : (b t : ℕ) (selector : List ℕ) → FullKey (layout_key b t selector)
layout_key_full b t selector = record { kind = omega arith; size = sym key_sizes.2 }

-- What holds of the SAE row and of the record's row holds of what is found.
either :
    {A : Type 0} (P : A → Type 0) (f : List ℕ → A) (o : Option A) (p : Option (List ℕ))
    → ((a : A) → o ≡ Some a → P a)
    → ((r : List ℕ) → p ≡ Some r → P (f r))
    → (a : A)
    → option_or o (option_map f p) ≡ Some a
    → P a
either P f (Some b) p u v a h = u a h
either P f None None u v a h = absurd (none-some a h)
either P f None (Some r) u v a h = let same : f r ≡ a = cc in subst P same (v r refl)

-- A record that a key finds among good records has the key's kind and is in range.
own_record :
    (rs : List (List ℕ)) → Good rs → (key r : List ℕ) → 0 < length key → record_with key rs ≡ Some r
    → (record_kind r ≡ record_kind key) × (in_range r ≡ true)
own_record rs good key r h f =
    let is = found_record key rs r f in
    (has_kind key r h is.0, (good.each r is.1).range)

-- What is found of a PRN beside good records is in range: a form from 1 to 9, a width from 1 to 64.
pub prn_in_range : (rs : List (List ℕ)) → Good rs → (p : ℕ) (row : PrnRow) → (catalogue_of rs).prn p ≡ Some row → prn_fits row ≡ true
unfolding catalogue_of
prn_in_range rs good p =
    either (λ (row : PrnRow). prn_fits row ≡ true) prn_row (sae_prn p) (record_with (prn_key p) rs) (λ row h. (sae_prn_fits p row h).1)
    (λ r h. let own = own_record rs good (prn_key p) r (omega arith) h in sym (range_prn r own.0) ∙ own.1)

-- What is found of a SLOT beside good records is in range, a divisor of at least 1 and limits in order, and has the form and width
-- that were sought; beside records of bytes its fields have their sizes.
pub slot_in_range : (rs : List (List ℕ)) → Good rs → (f w n : ℕ) (row : SlotRow) → (catalogue_of rs).slot f w n ≡ Some row → slot_fits row ≡ true
unfolding catalogue_of
slot_in_range rs good f w n =
    either (λ (row : SlotRow). slot_fits row ≡ true) slot_row (sae_slot f w n) (record_with (slot_key f w n) rs)
    (λ row h. (sae_slot_fits f w n row h).fits)
    (λ r h. let own = own_record rs good (slot_key f w n) r (omega arith) h in sym (range_slot r own.0) ∙ own.1)

pub slot_keyed :
    (rs : List (List ℕ)) → Good rs → (f w n : ℕ) (row : SlotRow) → (catalogue_of rs).slot f w n ≡ Some row → (row.form ≡ f) × (row.width ≡ w)
unfolding catalogue_of slot_row
slot_keyed rs good f w n =
    either (λ (row : SlotRow). (row.form ≡ f) × (row.width ≡ w)) slot_row (sae_slot f w n) (record_with (slot_key f w n) rs)
    (λ row h. let told = sae_slot_fits f w n row h in (told.form, told.width))
    (λ r h.
    let has = (found_record (slot_key f w n) rs r h).0 in
    (has_byte (slot_key f w n) r 1 (omega arith) has, has_byte (slot_key f w n) r 2 (omega arith) has))

pub slot_sized_lem :
    (rs : List (List ℕ))
    → ((r : List ℕ) → Memᴰ r rs → Bytes r)
    → (f w n : ℕ) (row : SlotRow)
    → (catalogue_of rs).slot f w n ≡ Some row
    → slot_sized row ≡ true
unfolding catalogue_of
slot_sized_lem rs bytes f w n =
    either (λ (row : SlotRow). slot_sized row ≡ true) slot_row (sae_slot f w n) (record_with (slot_key f w n) rs)
    (λ row h. sized_slot row (sae_slot_fits f w n row h).sizes)
    (λ r h. slot_row_sized r (bytes r (found_record (slot_key f w n) rs r h).1))

-- A layout has at most sixteen PRNs, whatever the records.
pub layout_sixteen : (rs : List (List ℕ)) (key : List ℕ) (l : LayoutRow) → (catalogue_of rs).layout key ≡ Some l → length l.prns ≤ most_prns
unfolding catalogue_of layout_row
layout_sixteen rs key =
    either (λ (l : LayoutRow). length l.prns ≤ most_prns) layout_row None (record_with key rs)
    (λ l h. absurd (none-some l h))
    (λ r h. sixteen r)
