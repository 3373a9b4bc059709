-- The line of an item whose SLOT is known: document 01, "The report", by form.
use Rattle.std.specs.Prelude.{ℕ, zero, suc, ◌+◌, ◌-◌, ◌/◌, ◌%◌, ◌^◌, Bool, true, cond, ◌&&◌, eqb, leb, ltb}
use Rattle.std.specs.Prelude.{ℤ, pos, neg_ℤ, ◌+ℤ◌, ◌*ℤ◌, Float}
use Rattle.std.specs.Float.{binary64}
use Rattle.std.specs.Float.Ieee.{of_int, div}
use Rattle.catalogue.specs.declared.rows.SlotRow.{SlotRow}
use Rattle.catalogue.specs.Rows.{snm, sed, bmp, asc, bmm, in_order}
use Rattle.report.specs.declared.line.Line.{Line}
use Rattle.report.specs.declared.line.Line.TheVariants.{Number, State, Bits, Text, Digits, Invalid, Unknown}
use Rattle.report.specs.Line.{not_shown_reason, no_state_reason, too_wide_reason}

-- The widest item that is shown: "width over 32, Unknown 6".
abbrev pub widest_shown : ℕ
widest_shown = 32

-- The number of a 32-bit pattern in two's complement.
unfoldable pub signed : ℕ → ℤ
signed p = cond (ltb p (2 ^ 31)) (pos p) (neg_ℤ (pos (2 ^ 32 - p)))

-- The raw number as a 32-bit pattern: for SNM the item's sign bit fills the bits before it.
unfoldable pub pattern : ℕ → ℕ → ℕ → ℕ
pattern form width raw = cond (eqb form snm && leb (2 ^ (width - 1)) raw) (raw + (2 ^ 32 - 2 ^ width)) raw

-- N: "the raw number; for SNM, two's complement".
unfoldable pub raw_number : ℕ → ℕ → ℕ → ℤ
raw_number form width raw = cond (eqb form snm) (signed (pattern form width raw)) (pos raw)

-- "(N x multiplier + offset) / divisor": the whole number above the line and the divisor, both held exactly, divided once.
unfoldable pub above : SlotRow → ℕ → ℤ
above slot raw = raw_number slot.form slot.width raw *ℤ pos slot.multiplier +ℤ signed slot.offset

unfoldable pub quotient : ℤ → ℕ → Float
quotient n d = div binary64 (of_int binary64 n) (of_int binary64 (pos d))

-- "Each Number must carry the whole number above the line and the divisor, unreduced, beside the double" (document 02, K3).
unfoldable pub number_line : SlotRow → ℕ → Line
number_line slot raw = Number (quotient (above slot raw) slot.divisor) (above slot raw) slot.divisor

-- Whether the raw number is within the SLOT's limits, as signed for SNM.
unfoldable pub within_limits : SlotRow → ℕ → Bool
within_limits slot raw =
    let p : ℕ = pattern slot.form slot.width raw in
    in_order slot.form slot.lowest p && in_order slot.form p slot.highest

-- Whether each of so many digits of a number, of so many bits each, passes a test.
unfoldable pub digits_pass : (ℕ → Bool) → ℕ → ℕ → ℕ → Bool
digits_pass p size zero raw = true
digits_pass p size (suc n) raw = p (raw % 2 ^ size) && digits_pass p size n (raw / 2 ^ size)

-- 20h to 7Eh; 0 to 9.
abbrev pub printable : ℕ → Bool
printable b = leb 0x20 b && leb b 0x7E

abbrev pub decimal : ℕ → Bool
decimal d = leb d 9

-- "ASC: width no multiple of 8, Unknown 4; a byte outside 20h to 7Eh, Invalid; else Text."
unfoldable pub text_line : ℕ → ℕ → Line
text_line width raw =
    cond (eqb (width % 8) 0) (cond (digits_pass printable 8 (width / 8) raw) (Text raw) (Invalid raw)) (Unknown not_shown_reason)

-- "BCD: width no multiple of 4, Unknown 4; a digit over 9, Invalid; else Digits."
unfoldable pub digits_line : ℕ → ℕ → Line
digits_line width raw =
    cond (eqb (width % 4) 0) (cond (digits_pass decimal 4 (width / 4) raw) (Digits raw) (Invalid raw)) (Unknown not_shown_reason)

-- "form BMM, SFP or PKT, Unknown 4; width over 32, Unknown 6. Then by form"
unfoldable pub form_line : ℕ → ℕ → SlotRow → ℕ → Line
form_line form width slot raw =
    cond (leb bmm form) (Unknown not_shown_reason)
    (cond (ltb widest_shown width) (Unknown too_wide_reason)
    (cond (leb form snm) (cond (within_limits slot raw) (number_line slot raw) (Invalid raw))
    (cond (eqb form sed) (cond (within_limits slot raw) (State raw) (Unknown no_state_reason))
    (cond (eqb form bmp) (Bits raw)
    (cond (eqb form asc) (text_line width raw) (digits_line width raw))))))
