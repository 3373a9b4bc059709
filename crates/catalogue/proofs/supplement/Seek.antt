-- Laws of a search through a supplement, record by record: begun, hit, missed and ended.
use Rattle.std.proofs.Common.{None, Some}
use mathlib.Core.Path.{◌≡◌, refl, sym, ap, ◌∙◌}
use mathlib.Core.Bool.{true, false}
use mathlib.Core.List.{List}
use Prim.Native.Nat.{ℕ, ◌+◌, ◌-◌, ◌≤◌, ◌<◌}
use native.Mathlib.Omega.{arith}
use lib.ListN.{length, take, drop}
use Rattle.catalogue.specs.Kind.{record_size}
use Rattle.catalogue.specs.Record.{has_key, record_with}
use Rattle.catalogue.specs.Supplement.{records_of}
use Rattle.catalogue.specs.Inner.{record_from, Seeking}
use Rattle.catalogue.proofs.supplement.Laws.{from_part, onward, search_hit, search_miss, search_end}

module _ (s key : List ℕ) where
  pub begun : (kind : ℕ) {size : ℕ} → size ≡ record_size kind → Seeking s key 0 kind size
  begun kind e = record { rest = refl; within = omega arith; sized = e }

  module _ {at kind size : ℕ} (seeking : Seeking s key at kind size) where
    pub ended : length s ≤ at → None ≡ record_with key (records_of s)
    ended h = sym (seeking.rest ∙ search_end key s at h)

    -- At a record, which ends at a place.
    module _ (h : at < length s) {end : ℕ} (e : end ≡ at + length (record_from s at)) where
      part : take (end - at) (drop at s) ≡ record_from s at
      part = from_part s at e

      pub hit : has_key key (take (end - at) (drop at s)) ≡ true → Some (take (end - at) (drop at s)) ≡ record_with key (records_of s)
      hit has = ap Some part ∙ sym (seeking.rest ∙ search_hit key s at h (sym (ap (has_key key) part) ∙ has))

      pub miss :
          has_key key (take (end - at) (drop at s)) ≡ false
          → (kind : ℕ) {size : ℕ}
          → size ≡ record_size kind
          → Seeking s key end kind size
      miss hasn't kind sized =
          record {
            rest =
                seeking.rest
                ∙ search_miss key s at h (sym (ap (has_key key) part) ∙ hasn't)
                ∙ ap (λ (i : ℕ). record_with key (records_of (drop i s))) (sym e);
            within = (onward s at h e).1;
            sized = sized;
          }
