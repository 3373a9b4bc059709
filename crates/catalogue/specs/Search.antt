-- The one search of all tables, and tests over whole lists.
use Rattle.std.specs.Prelude.{ℕ, Bool, true, cond, ◌&&◌, List, [], ◌∷◌, ltb, Option, None, Some}

-- The first element for which a test holds: std's `find`, which would compute in every goal that has a table.
unfoldable pub first_where : {A : Type 0} → (A → Bool) → List A → Option A
first_where p [] = None
first_where p (a ∷ l) = cond (p a) (Some a) (first_where p l)

-- Whether a test holds for every element.
unfoldable pub every : {A : Type 0} → (A → Bool) → List A → Bool
every p [] = true
every p (a ∷ l) = p a && every p l

-- Whether each number is above the one before it, so that none stands twice.
unfoldable pub rising : List ℕ → Bool
rising [] = true
rising (a ∷ []) = true
rising (a ∷ b ∷ l) = ltb a b && rising (b ∷ l)
