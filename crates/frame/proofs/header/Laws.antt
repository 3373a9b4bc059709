-- Laws of the first byte.
use mathlib.Core.Path.{◌≡◌, refl, ap}
use mathlib.Core.Logic.{◌⊎◌, inl, inr, ⊎_elim}
use mathlib.Core.Bool.{Bool, true, false, cond}
use mathlib.Core.List.{List}
use Prim.Native.Nat.{ℕ, ◌≤◌, ◌/◌, ◌%◌}
use native.Mathlib.Omega.{arith}
use borrow.Author.Tests.{eq-eqb, ne_eqb}
use lib.Bits.{bit_and, and_mask}
use lib.Dec.{eqb}
use lib.ListN.{get_or}
use Rattle.frame.specs.Header.{three_byte_form, one_byte_form, bit_h, header_size, message_type, response_kind, kind_asked}

-- A bit, moved down and masked.
pub masked : (b weight : ℕ) → bit_and (b / weight) 1 ≡ b / weight % 2
masked b weight = and_mask (b / weight) 1

-- So bit 4 is H.
pub masked_h : (b : ℕ) → bit_and (b / 16) 1 ≡ bit_h b
masked_h b = masked b 16

pub three_bytes : (s : List ℕ) → bit_h (get_or s 0 0) ≡ 0 → header_size s ≡ three_byte_form
unfolding header_size
three_bytes s e = rw (eq-eqb (bit_h (get_or s 0 0)) 0 e)

pub one_byte : (s : List ℕ) → (bit_h (get_or s 0 0) ≡ 0 → ⊥) → header_size s ≡ one_byte_form
unfolding header_size
one_byte s e = rw (ne_eqb (bit_h (get_or s 0 0)) 0 e)

-- Three bytes exactly where H is 0, as tests.
pub three_exactly : (s : List ℕ) → eqb (bit_h (get_or s 0 0)) 0 ≡ eqb (header_size s) three_byte_form
unfolding header_size
three_exactly s = go (eqb (bit_h (get_or s 0 0)) 0)
  where
    go : (t : Bool) → t ≡ eqb (cond t three_byte_form one_byte_form) three_byte_form
    go true = refl
    go false = refl

-- A header has one byte or three.
pub one_or_three : (s : List ℕ) → (header_size s ≡ one_byte_form) ⊎ (header_size s ≡ three_byte_form)
unfolding header_size
one_or_three s = go (eqb (bit_h (get_or s 0 0)) 0)
  where
    go :
        (t : Bool)
        → (cond t three_byte_form one_byte_form ≡ one_byte_form) ⊎ (cond t three_byte_form one_byte_form ≡ three_byte_form)
    go true = inr refl
    go false = inl refl

pub header_range : (s : List ℕ) → (one_byte_form ≤ header_size s) × (header_size s ≤ three_byte_form)
header_range s = ⊎_elim (λ e. omega arith) (λ e. omega arith) (one_or_three s)

-- Both follow from the first byte alone.
pub same_size : (s t : List ℕ) → get_or s 0 0 ≡ get_or t 0 0 → header_size s ≡ header_size t
unfolding header_size
same_size s t e = ap (λ (b : ℕ). cond (eqb (bit_h b) 0) three_byte_form one_byte_form) e

pub same_kind : (s t : List ℕ) → get_or s 0 0 ≡ get_or t 0 0 → kind_asked s ≡ kind_asked t
unfolding kind_asked
same_kind s t e = ap (λ (b : ℕ). response_kind (message_type b)) e
