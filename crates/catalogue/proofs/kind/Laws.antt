-- Laws of kinds: what holds of each by one computed test, and so at every number.
use Rattle.std.proofs.Common.{Option, None, Some, is_some}
use mathlib.Core.Path.{◌≡◌, refl, sym, ap, ◌∙◌}
use mathlib.Core.Bool.{true, false, not, ◌&&◌, true≢false}
use Prim.Native.Nat.{ℕ, ◌≤◌}
use native.Mathlib.Omega.{arith}
use borrow.Author.Tests.{leb-true, ltb-true, lt-leb, ne_eqb}
use lib.Dec.{eqb, leb, ltb}
use Rattle.catalogue.specs.Search.{first_where, every}
use Rattle.catalogue.specs.Kind.{slot_kind, prn_kind, layout_kind, selector_kind}
use Rattle.catalogue.specs.declared.kind.Kind as declared
use Rattle.catalogue.specs.declared.kind.Kind.TheVariants.{Slot, Prn, Layout, Selector}
use Rattle.catalogue.specs.Kind.{kind_number, Kind, kinds, kind_holds, kinds_hold, kind_found, known, or_unknown, record_size, key_size}
use Rattle.catalogue.proofs.search.Laws.{both, found_is, every_is}

kinds_hold_lem : kinds_hold ≡ true
unfolding kinds_hold kinds every
kinds_hold_lem = refl

-- The bytes of kind and key, kind by kind.
pub key_sizes : (key_size slot_kind ≡ 5) × (key_size prn_kind ≡ 3) × (key_size layout_kind ≡ 6) × (key_size selector_kind ≡ 3)
unfolding key_size or_unknown kind_found kinds first_where
key_sizes = (refl, refl, refl, refl)

-- The bytes of a record, kind by kind.
pub record_sizes : (record_size slot_kind ≡ 21) × (record_size prn_kind ≡ 7) × (record_size layout_kind ≡ 39) × (record_size selector_kind ≡ 4)
unfolding record_size or_unknown kind_found kinds first_where
record_sizes = (refl, refl, refl, refl)

pub layout_size : record_size layout_kind ≡ 39
unfolding record_size or_unknown kind_found kinds first_where
layout_size = refl

-- A kind that was found, or the unknown one: a record has a byte, its key lies within it, and its size tells whether the kind is known.
record Sized (o : Option Kind) : Type 0 where
  least : 1 ≤ (or_unknown o).size
  within : (or_unknown o).key ≤ (or_unknown o).size
  keyed : is_some o ≡ true → 1 ≤ (or_unknown o).key
  told : not (is_some o) ≡ leb (or_unknown o).size 1

sized : (o : Option Kind) → ((k : Kind) → o ≡ Some k → kind_holds k ≡ true) → Sized o
unfolding or_unknown
sized None h = record { least = omega arith; within = omega arith; keyed = λ e. absurd (true≢false (sym e)); told = refl }
sized (Some k) h =
    let two = both (ltb 1 k.size && ltb 1 k.key) (leb k.key k.size) (h k refl) in
    let one = both (ltb 1 k.size) (ltb 1 k.key) two.0 in
    let size = ltb-true 1 k.size one.0 in
    let key = ltb-true 1 k.key one.1 in
    record {
      least = omega (arith, size);
      within = leb-true k.key k.size two.1;
      keyed = λ e. omega (arith, key);
      told = sym (lt-leb k.size 1 size);
    }

module _ (kind : ℕ) where
  kind_sized : Sized (kind_found kind)
  unfolding kind_found kinds_hold
  kind_sized =
      sized (kind_found kind)
      (λ k e. every_is kind_holds kinds kinds_hold_lem k (found_is (λ (q : Kind). eqb q.number kind) kinds k e).1)

  pub size_positive : 1 ≤ record_size kind
  unfolding record_size
  size_positive = kind_sized.least

  -- Kind and key lie within a whole record.
  pub key_within : key_size kind ≤ record_size kind
  unfolding key_size record_size
  key_within = kind_sized.within

  pub known_key : known kind ≡ true → 1 ≤ key_size kind
  unfolding known key_size
  known_key e = kind_sized.keyed e

  -- A record of one byte is of an unknown kind.
  pub unknown_told : not (known kind) ≡ leb (record_size kind) 1
  unfolding known record_size
  unknown_told = kind_sized.told

  -- The kinds are these.
  unlisted : (kind ≡ slot_kind → ⊥) → (kind ≡ prn_kind → ⊥) → (kind ≡ layout_kind → ⊥) → (kind ≡ selector_kind → ⊥) → kind_found kind ≡ None
  unfolding kind_found kinds first_where
  unlisted a b c d =
      rw (
        ne_eqb slot_kind kind (λ e. a (sym e)),
        ne_eqb prn_kind kind (λ e. b (sym e)),
        ne_eqb layout_kind kind (λ e. c (sym e)),
        ne_eqb selector_kind kind (λ e. d (sym e)),
      )

  pub size_unlisted : (kind ≡ slot_kind → ⊥) → (kind ≡ prn_kind → ⊥) → (kind ≡ layout_kind → ⊥) → (kind ≡ selector_kind → ⊥) → record_size kind ≡ 1
  unfolding record_size or_unknown
  size_unlisted a b c d = ap (λ (o : Option Kind). (or_unknown o).size) (unlisted a b c d)

  pub key_unlisted : (kind ≡ slot_kind → ⊥) → (kind ≡ prn_kind → ⊥) → (kind ≡ layout_kind → ⊥) → (kind ≡ selector_kind → ⊥) → key_size kind ≡ 0
  unfolding key_size or_unknown
  key_unlisted a b c d = ap (λ (o : Option Kind). (or_unknown o).key) (unlisted a b c d)

  pub unlisted_told :
      (kind ≡ slot_kind → ⊥) → (kind ≡ prn_kind → ⊥) → (kind ≡ layout_kind → ⊥) → (kind ≡ selector_kind → ⊥) → known kind ≡ false
  unfolding known
  unlisted_told a b c d = ap is_some (unlisted a b c d)

  pub size_unknown : known kind ≡ false → record_size kind ≡ 1
  unfolding record_size
  size_unknown e = omega (arith, leb-true (record_size kind) 1 (sym unknown_told ∙ ap not e), size_positive)

-- Each kind by name is known.
pub named_known : (k : declared.Kind) → known (kind_number k) ≡ true
unfolding known kind_found kinds first_where
named_known Slot = refl
named_known Prn = refl
named_known Layout = refl
named_known Selector = refl
