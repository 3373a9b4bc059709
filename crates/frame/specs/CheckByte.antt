-- The check byte: document 01, "The frame", third rule.
use Rattle.std.specs.Prelude.{ℕ, zero, suc, ◌-◌, ◌*◌, Bool, cond, List, [], ◌∷◌, ltb}
use Rattle.std.specs.Int.Bits.{bit_xor}
use Rattle.frame.specs.Seal.{sealed_by, is_sealed_by}

-- "polynomial x^8+x^4+x^3+x^2+1": its terms below x^8.
abbrev pub polynomial : ℕ
polynomial = 0x1D

-- "register starts all ones"
abbrev pub all_ones : ℕ
all_ones = 0xFF

-- "Header, data and check byte together leave C4h in the register"
abbrev pub residue : ℕ
residue = 0xC4

-- The register's most significant bit.
abbrev pub top_bit : ℕ
top_bit = 0x80

-- How many bits a byte has.
abbrev pub byte_bits : ℕ
byte_bits = 8

-- One bit of the register, most significant bit first: it moves up by one place, and where a one leaves it,
-- the polynomial is added in.
unfoldable pub step : ℕ → ℕ
step r = cond (ltb r top_bit) (r * 2) (bit_xor ((r - top_bit) * 2) polynomial)

unfoldable pub steps : ℕ → ℕ → ℕ
steps zero r = r
steps (suc n) r = step (steps n r)

-- One byte: added in, then a step for each of its bits.
unfoldable pub feed : ℕ → ℕ → ℕ
feed r b = steps byte_bits (bit_xor r b)

unfoldable pub register : ℕ → List ℕ → ℕ
register r [] = r
register r (b ∷ s) = register (feed r b) s

-- The register starts all ones, and its complement is sent.
unfoldable pub check_byte : List ℕ → ℕ
check_byte s = all_ones - register all_ones s

-- A run and this check byte.
abbrev pub sealed : List ℕ → List ℕ
sealed s = sealed_by check_byte s

abbrev pub is_sealed : List ℕ → Bool
is_sealed s = is_sealed_by check_byte s
