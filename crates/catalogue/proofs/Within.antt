-- The laws that carry demand 3, and instances.
use Rattle.std.specs.Option.{option_or}
use Rattle.std.proofs.Common.{Option, None, Some, unwrap_or, option_map}
use Rattle.std.proofs.lemmas.Option.{none-some}
use mathlib.Core.Path.{◌≡◌, refl, sym, ap, ◌∙◌, subst}
use mathlib.Core.Logic.{◌⊎◌, inl, inr, ⊎_elim}
use mathlib.Core.Bool.{true, true≢false}
use mathlib.Core.List.Memᴰ
use mathlib.Core.List.{List, [], ◌∷◌, ◌++◌, Memᴰ}
use Prim.Native.Nat.{ℕ, ◌<◌}
use native.Mathlib.Omega.{arith}
use lib.ListN.{get_or}
use Rattle.catalogue.specs.Kind.{layout_kind}
use Rattle.catalogue.specs.Sae.{sae_prn, sae_slot}
use Rattle.catalogue.specs.Record.{has_key, record_with, FullKey, slot_row, prn_row, header_in, selector_length, layout_row}
use Rattle.catalogue.specs.Supplement.{records_of, Accepted, Distinct, Among, NoNewSelector, Whole}
use Rattle.catalogue.specs.Lookup.{prn_key, slot_key, selector_key, layout_key, catalogue_of, catalogue, usual_length, length_for, Within}
use Rattle.catalogue.proofs.search.Laws.{none_is, none_found}
use Rattle.catalogue.proofs.record.Keys.{has_start, has_byte, found_record}
use Rattle.catalogue.proofs.supplement.Distinct.{found_again}
use Rattle.catalogue.proofs.supplement.Laws.{records_append}
use Rattle.catalogue.proofs.Accepted.{good}
use Rattle.catalogue.proofs.lookup.Laws.{prn_key_full, slot_key_full, selector_key_full}

-- A record's row, or the SAE tables first: with what the first search finds, the second answers the same.
row_same :
    {B : Type 0} (f : List ℕ → B) (p q : Option (List ℕ))
    → ((r : List ℕ) → p ≡ Some r → q ≡ Some r)
    → (b : B)
    → option_map f p ≡ Some b
    → option_map f q ≡ Some b
row_same f None q u b h = absurd (none-some b h)
row_same f (Some a) q u b h = ap (option_map f) (u a refl) ∙ h

else_same :
    {B : Type 0} (o : Option B) (f : List ℕ → B) (p q : Option (List ℕ))
    → ((r : List ℕ) → p ≡ Some r → q ≡ Some r)
    → (b : B)
    → option_or o (option_map f p) ≡ Some b
    → option_or o (option_map f q) ≡ Some b
else_same (Some c) f p q u b h = h
else_same None f p q u b h = row_same f p q u b h

-- The law that carries demand 3: the records of the first list among those of the second, whose keys are distinct, in any order, give a
-- catalogue within the other.
module _ (rs qs : List (List ℕ)) (keys : Distinct qs) (among : (r : List ℕ) → Memᴰ r rs → Memᴰ r qs) where
  found_within : (key : List ℕ) → FullKey key → (r : List ℕ) → record_with key rs ≡ Some r → record_with key qs ≡ Some r
  found_within key full r f =
      let is = found_record key rs r f in
      found_again qs keys key r full (among r is.1) is.0

  pub within : Within (catalogue_of rs) (catalogue_of qs)
  unfolding catalogue_of
  within =
      record {
        prn = λ p. else_same (sae_prn p) prn_row _ _ (found_within (prn_key p) (prn_key_full p));
        slot = λ f w n. else_same (sae_slot f w n) slot_row _ _ (found_within (slot_key f w n) (slot_key_full f w n));
        selector = λ b t. row_same selector_length _ _ (found_within (selector_key b t) (selector_key_full b t));
        layout = λ key full. row_same layout_row _ _ (found_within key full);
      }

-- "the second supplement has no kind 4 record for any header for which the first has a layout, except those that the first has too": so
-- a header's selector has the same length in both lists, or the first has no layout for it.
module _
    (rs qs : List (List ℕ))
    (keys : Distinct qs)
    (among : (r : List ℕ) → Memᴰ r rs → Memᴰ r qs)
    (kept : NoNewSelector rs qs)
    (b t : ℕ)
  where
    -- What every layout of the header begins with.
    abbrev start : List ℕ
    start = layout_kind ∷ b ∷ t ∷ []

    -- A record that the first list has too is found there: whatever is found there is found in the second.
    found_there :
        (r : List ℕ)
        → Memᴰ r rs
        → has_key (selector_key b t) r ≡ true
        → record_with (selector_key b t) qs ≡ Some r
        → (o : Option (List ℕ))
        → record_with (selector_key b t) rs ≡ o
        → record_with (selector_key b t) rs ≡ Some r
    unfolding record_with
    found_there r m h f None e = absurd (true≢false (sym h ∙ none_is (has_key (selector_key b t)) rs e r m))
    found_there r m h f (Some q) e = e ∙ sym (found_within rs qs keys among (selector_key b t) (selector_key_full b t) q e) ∙ f

    -- A layout of the header in the first list: its kind 4 record in the second stands in the first, so that both searches find it.
    found_both :
        (r : List ℕ)
        → record_with (selector_key b t) qs ≡ Some r
        → (l : List ℕ)
        → record_with start rs ≡ Some l
        → record_with (selector_key b t) rs ≡ Some r
    found_both r f l g =
        let is = found_record (selector_key b t) qs r f in
        let has = found_record start rs l g in
        let byte : (i : ℕ) → i < 3 → get_or r i 0 ≡ get_or (selector_key b t) i 0 = λ i h. has_byte (selector_key b t) r i h is.0 in
        let of : (i : ℕ) → i < 3 → get_or l i 0 ≡ get_or start i 0 = λ i h. has_byte start l i h has.0 in
        let same : header_in r ≡ header_in l =
        λ i. (byte 1 (omega arith) ∙ sym (of 1 (omega arith))) i ∷ (byte 2 (omega arith) ∙ sym (of 2 (omega arith))) i ∷ [] in
        let stands = kept r l is.1 (byte 0 (omega arith)) has.1 (of 0 (omega arith)) same in
        found_there r stands is.0 f (record_with (selector_key b t) rs) refl

    -- No record that begins as a layout of the header does: no selector finds one.
    no_layout : record_with start rs ≡ None → (selector : List ℕ) → (catalogue_of rs).layout (layout_key b t selector) ≡ None
    unfolding catalogue_of record_with
    no_layout e selector =
        ap (option_map layout_row)
        (none_found (has_key (layout_key b t selector)) rs
        (λ r m. has_start start _ r (none_is (has_key start) rs e r m)))

    alike :
        (o : Option (List ℕ))
        → record_with (selector_key b t) qs ≡ o
        → (p : Option (List ℕ))
        → record_with start rs ≡ p
        → (record_with (selector_key b t) rs ≡ record_with (selector_key b t) qs)
        ⊎ ((selector : List ℕ) → (catalogue_of rs).layout (layout_key b t selector) ≡ None)
    alike None e p g = inl (go (record_with (selector_key b t) rs) refl ∙ sym e)
      where
        go : (q : Option (List ℕ)) → record_with (selector_key b t) rs ≡ q → record_with (selector_key b t) rs ≡ None
        go None f = f
        go (Some r) f =
            let both : None ≡ Some r = sym e ∙ found_within rs qs keys among (selector_key b t) (selector_key_full b t) r f in
            absurd (let z : ◌≡◌ {A = ℕ} 0 1 = cc in omega arith)
    alike (Some r) e None g = inr (no_layout g)
    alike (Some r) e (Some l) g = inl (found_both r e l g ∙ sym e)

    pub lengths_alike :
        (length_for (catalogue_of rs) b t ≡ length_for (catalogue_of qs) b t)
        ⊎ ((selector : List ℕ) → (catalogue_of rs).layout (layout_key b t selector) ≡ None)
    unfolding catalogue_of length_for
    lengths_alike =
        ⊎_elim (λ e. inl (ap (λ (o : Option (List ℕ)). unwrap_or (option_map selector_length o) usual_length) e)) inr
        (alike (record_with (selector_key b t) qs) refl (record_with start rs) refl)

-- `within` of two supplements,
pub supplement_within : (s t : List ℕ) → Accepted t → Among s t → Within (catalogue s) (catalogue t)
supplement_within s t e among = within (records_of s) (records_of t) (good t e).keys among

-- The records of an accepted supplement are whole.
pub accepted_whole : (s : List ℕ) → Accepted s → Whole s
accepted_whole s e r m = ((good s e).each r m).whole

-- Instances: records appended,
pub appended : (s u : List ℕ) → Accepted s → Accepted (s ++ u) → Within (catalogue s) (catalogue (s ++ u))
appended s u e f =
    supplement_within s (s ++ u) f
    (λ r m. subst (Memᴰ r) (sym (records_append s u (accepted_whole s e))) (Memᴰ.append_left (records_of u) m))

-- two parts of a supplement in the other order,
pub swapped : (s u : List ℕ) → Whole s → Whole u → Accepted (u ++ s) → Within (catalogue (s ++ u)) (catalogue (u ++ s))
swapped s u w v e =
    supplement_within (s ++ u) (u ++ s) e
    (λ r m.
    subst (Memᴰ r) (sym (records_append u s v))
    (⊎_elim (λ t. Memᴰ.append_right (records_of u) t) (λ t. Memᴰ.append_left (records_of s) t)
    (Memᴰ.append_cases (records_of s) (subst (Memᴰ r) (records_append s u w) m))))

-- and records removed from within.
pub removed : (s x u : List ℕ) → Whole s → Whole x → Accepted (s ++ (x ++ u)) → Within (catalogue (s ++ u)) (catalogue (s ++ (x ++ u)))
removed s x u w v e =
    supplement_within (s ++ u) (s ++ (x ++ u)) e
    (λ r m.
    subst (Memᴰ r) (sym (records_append s (x ++ u) w ∙ ap (λ (rs : List (List ℕ)). records_of s ++ rs) (records_append x u v)))
    (⊎_elim (λ t. Memᴰ.append_left (records_of x ++ records_of u) t) (λ t. Memᴰ.append_right (records_of s) (Memᴰ.append_right (records_of x) t))
    (Memᴰ.append_cases (records_of s) (subst (Memᴰ r) (records_append s u w) m))))
