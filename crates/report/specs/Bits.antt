-- The bits of an item: document 01, "The report". Most significant bit first, with no gaps.
use Rattle.std.specs.Prelude.{ℕ, zero, suc, ◌+◌, ◌-◌, ◌*◌, ◌/◌, ◌%◌, ◌^◌, List, get_or}

-- A bit of a run of bytes, counted from the most significant bit of its first byte.
unfoldable pub bit_at : List ℕ → ℕ → ℕ
bit_at s i = get_or s (i / 8) 0 / 2 ^ (7 - i % 8) % 2

-- The number that so many bits from a place on make.
unfoldable pub cut : List ℕ → ℕ → ℕ → ℕ
cut s at zero = 0
cut s at (suc w) = cut s at w * 2 + bit_at s (at + w)
