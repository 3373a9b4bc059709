-- Messages of ISO 9141-2: document 02, K1.
use Rattle.std.specs.Prelude.{ℕ, ◌+◌, ◌%◌, ◌≤◌, ◌≡◌, Bool, true, not, ◌||◌, List, [], ◌∷◌, ◌++◌, ltb, eqb, length, get_or}
use Rattle.frame.specs.declared.response.ResponseKind.TheVariants.{Empty}
use Rattle.frame.specs.Seal.{sealed_by, is_sealed_by}
use Rattle.frame.specs.Header.{bit_h, bit_k, three_byte_form}
use Rattle.frame.specs.Frame.{Frame, frame_size, Parts, parts_at, most_bytes}
use Rattle.frame.specs.Refusal.{too_long, too_short, check_wrong, header_wrong, output_short, first_byte_wrong}
use Rattle.frame.specs.Refusal.{Outcome, outcome, Rule, first_broken}

-- "a check byte that is the sum of the bytes before it modulo 256"
unfoldable pub sum : List ℕ → ℕ
sum [] = 0
sum (b ∷ s) = b + sum s

unfoldable pub sum_byte : List ℕ → ℕ
sum_byte s = sum s % 256

-- "a first byte with H = 1 or K = 0"; an empty run counts as if it began with 0.
unfoldable pub wrong_first : List ℕ → Bool
wrong_first run = let b : ℕ = get_or run 0 0 in eqb (bit_h b) 1 || eqb (bit_k b) 0

-- "Refusals: 1, 2 (below four bytes), 3, then 9": the header has three bytes, and the check byte is the fourth.
unfoldable pub iso_read_rules : List ℕ → List Rule
iso_read_rules run =
    record { number = too_long; broken = ltb most_bytes (length run) }
    ∷ record { number = too_short; broken = ltb (length run) (three_byte_form + 1) }
    ∷ record { number = check_wrong; broken = not (is_sealed_by sum_byte run) }
    ∷ record { number = first_byte_wrong; broken = wrong_first run }
    ∷ []

unfoldable pub iso_read_refusal : List ℕ → ℕ
iso_read_refusal run = first_broken (iso_read_rules run)

-- "three header bytes, data, and a check byte .. there is no response"
unfoldable pub iso_parts : List ℕ → Parts
iso_parts run = parts_at three_byte_form run Empty []

unfoldable pub read_iso : List ℕ → Outcome Parts
read_iso run = outcome (iso_read_refusal run) (iso_parts run)

-- The rules of an accepted message, said without an order.
pub record IsoObeys (run : List ℕ) : Type 0 where
  pub most : length run ≤ most_bytes
  pub long : three_byte_form + 1 ≤ length run
  pub check : is_sealed_by sum_byte run ≡ true
  pub first_h : bit_h (get_or run 0 0) ≡ 0
  pub first_k : bit_k (get_or run 0 0) ≡ 1

-- The message of a header and data.
unfoldable pub iso_frame : List ℕ → List ℕ → Frame
iso_frame header body = record { first = sealed_by sum_byte (header ++ body); response = [] }

-- "the writer gives 7 (header not three bytes), 9, 1, 8", for `room` bytes of lent output.
unfoldable pub iso_write_rules : List ℕ → List ℕ → ℕ → List Rule
iso_write_rules header body room =
    record { number = header_wrong; broken = not (eqb (length header) three_byte_form) }
    ∷ record { number = first_byte_wrong; broken = wrong_first header }
    ∷ record { number = too_long; broken = ltb most_bytes (frame_size (iso_frame header body)) }
    ∷ record { number = output_short; broken = ltb room (frame_size (iso_frame header body)) }
    ∷ []

unfoldable pub iso_write_refusal : List ℕ → List ℕ → ℕ → ℕ
iso_write_refusal header body room = first_broken (iso_write_rules header body room)

unfoldable pub write_iso : List ℕ → List ℕ → ℕ → Outcome Frame
write_iso header body room = outcome (iso_write_refusal header body room) (iso_frame header body)
