-- Runs of bytes, and lent memory that is written over.
use Rattle.std.specs.Prelude.{ℕ, ◌+◌, ◌<◌, Bool, ◌==◌, List, ◌++◌, length, take, drop, get_or}
use Rattle.std.specs.List.{list_all}

-- Each element is a byte.
abbrev pub Bytes : List ℕ → Type 0
Bytes s = (i : ℕ) → get_or s i 0 < 256

abbrev pub all_zero : List ℕ → Bool
all_zero s = list_all (λ b. b == 0) s

-- A part of a list written over from a place on; all else stays.
unfoldable pub placed : List ℕ → ℕ → List ℕ → List ℕ
placed out at u = take at out ++ u ++ drop (at + length u) out
