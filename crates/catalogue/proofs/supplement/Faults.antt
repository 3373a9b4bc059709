-- The faults of a record of a known kind, one test after the other.
use Rattle.std.proofs.Common.{is_some}
use mathlib.Core.Path.{◌≡◌, sym, ap, ◌∙◌}
use mathlib.Core.Bool.{true, false, not}
use mathlib.Core.List.{List}
use Prim.Native.Nat.{ℕ, ◌≤◌, ◌<◌}
use native.Mathlib.Omega.{arith}
use borrow.Author.Tests.{lt-ltb, le-ltb}
use lib.ListN.{length, take, drop}
use lib.Seq.{length-take-le}
use Rattle.frame.specs.Refusal.{first_broken}
use Rattle.frame.proofs.refusal.Laws.{broken, kept, last_kept}
use Rattle.catalogue.specs.declared.kind.Kind as declared
use Rattle.catalogue.specs.Kind.{kind_number, record_size, key_size, known}
use Rattle.catalogue.specs.Record.{record_kind, key_of, record_with, FullKey, in_range, in_sae, fault_rules, fault}
use Rattle.catalogue.proofs.kind.Laws.{named_known, key_within}
use Rattle.catalogue.proofs.record.Keys.{own_key}

pub unknown_fault : (seen : List (List ℕ)) (r : List ℕ) → known (record_kind r) ≡ false → 11 ≡ fault seen r
unfolding fault fault_rules
unknown_fault seen r e = sym (broken _ _ (ap not e))

-- A record after those seen, whose kind and size were read.
module _
    (seen : List (List ℕ)) (r : List ℕ) (kind : declared.Kind) (read : kind_number kind ≡ record_kind r) {n : ℕ} (size : n ≡ record_size (kind_number kind))
  where
    listed : known (record_kind r) ≡ true
    listed = ap known (sym read) ∙ named_known kind

    sized : n ≡ record_size (record_kind r)
    sized = size ∙ ap record_size read

    -- What the rules from a number on give.
    from : ℕ → ℕ
    from i = first_broken (drop i (fault_rules seen r))

    past1 : fault seen r ≡ from 1
    unfolding from fault fault_rules
    past1 = kept _ _ (ap not listed)

    pub cut_fault : length r < n → 12 ≡ fault seen r
    unfolding from fault_rules
    cut_fault h = sym (past1 ∙ broken _ _ (lt-ltb _ _ (rw sized at h)))

    module _ (whole : n ≤ length r) where
      past2 : fault seen r ≡ from 2
      unfolding from fault_rules
      past2 = past1 ∙ kept _ _ (le-ltb _ _ (rw sized at whole))

      pub range_fault : false ≡ in_range r → 13 ≡ fault seen r
      unfolding from fault_rules
      range_fault h = sym (past2 ∙ broken _ _ (ap not (sym h)))

      -- The key, whose size was read.
      module _ {m : ℕ} (key : m ≡ key_size (kind_number kind)) where
        keyed : take m r ≡ key_of r
        keyed = ap (λ (k : ℕ). take k r) (key ∙ ap key_size read)

        pub key_fits : m ≡ length (take m r)
        key_fits = sym (length-take-le m r (omega (arith, key ∙ ap key_size read, key_within (record_kind r), sized)))

        pub key_full : FullKey (take m r)
        key_full = rw keyed (own_key r listed (omega (arith, sized)))

        module _ (within : true ≡ in_range r) where
          past3 : fault seen r ≡ from 3
          unfolding from fault_rules
          past3 = past2 ∙ kept _ _ (ap not (sym within))

          pub repeated_fault : true ≡ is_some (record_with (take m r) seen) → 14 ≡ fault seen r
          unfolding from fault_rules
          repeated_fault h = sym (past3 ∙ broken _ _ (ap (λ (k : List ℕ). is_some (record_with k seen)) (sym keyed) ∙ sym h))

          module _ (new : false ≡ is_some (record_with (take m r) seen)) where
            past4 : fault seen r ≡ from 4
            unfolding from fault_rules
            past4 = past3 ∙ kept _ _ (ap (λ (k : List ℕ). is_some (record_with k seen)) (sym keyed) ∙ sym new)

            pub sae_fault : true ≡ in_sae r → 15 ≡ fault seen r
            unfolding from fault_rules
            sae_fault h = sym (past4 ∙ broken _ _ (sym h))

            pub no_fault : false ≡ in_sae r → 0 ≡ fault seen r
            unfolding from fault_rules
            no_fault h = sym (past4 ∙ last_kept _ (sym h))
