-- A run and its check byte, whichever check byte the bus has.
use Rattle.std.specs.Prelude.{ℕ, ◌-◌, ◌≡◌, Bool, ◌&&◌, List, [], ◌∷◌, ◌++◌, ltb, eqb, length, take, get_or}

-- A run and the check byte of it.
unfoldable pub sealed_by : (List ℕ → ℕ) → List ℕ → List ℕ
sealed_by check s = s ++ check s ∷ []

-- Whether a run has a last byte and that is the check byte of those before it.
unfoldable pub is_sealed_by : (List ℕ → ℕ) → List ℕ → Bool
is_sealed_by check s = ltb 0 (length s) && eqb (get_or s (length s - 1) 0) (check (take (length s - 1) s))

-- Exactly one byte of a run changed, whichever of its bits.
pub record OneChanged (run other : List ℕ) : Type 0 where
  pub before : List ℕ
  pub byte : ℕ
  pub changed : ℕ
  pub after : List ℕ
  pub was : run ≡ before ++ byte ∷ after
  pub is : other ≡ before ++ changed ∷ after
  pub differs : byte ≡ changed → ⊥
