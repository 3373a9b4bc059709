-- How cases that are run one after another end.
use Rattle.std.specs.Prelude.{◌≡◌, ◌⊎◌, ◌-◌, ◌^◌, Bool, true, false, Result, Ok, Err, List, length}
use Rattle.std.specs.List.{FoldsTo}

-- A run ends at a case behind which there is no other, and fails with one that fails.
abbrev pub EndsWith : {E : Type 0} → Result Bool E → Result (Unit {0}) E → Type 0
EndsWith (Ok true) result = ⊥
EndsWith (Ok false) result = result ≡ Ok tt
EndsWith (Err e) result = result ≡ Err e

-- Cases one after another: each but the last answers that there may be another, and the last one ends the run, if not 2^64 - 1 turns do.
pub record RunsOut {F E : Type 0} (calls : F → Result Bool E → F → Type 0) (first : F) (result : Result (Unit {0}) E) : Type 0 where
  pub turns : List (Unit {0})
  pub last : F
  pub went_on : FoldsTo (λ f turn g. calls f (Ok true) g) first turns last
  pub ended :
      ((answer : Result Bool E) × (behind : F) × calls last answer behind × EndsWith answer result)
      ⊎ ((length turns ≡ 2 ^ 64 - 1) × (result ≡ Ok tt))
