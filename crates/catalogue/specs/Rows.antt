-- Rows of the SAE tables: the fields and ranges of document 01, "The supplement", kinds 1 and 2.
use Rattle.std.specs.Prelude.{ℕ, ◌+◌, ◌-◌, ◌%◌, ◌^◌, Bool, cond, ◌&&◌, eqb, leb, ltb}
use Rattle.catalogue.specs.declared.rows.PrnRow.{PrnRow}
use Rattle.catalogue.specs.declared.rows.SlotRow.{SlotRow}

-- The forms by number.
abbrev pub unm : ℕ
unm = 1

abbrev pub snm : ℕ
snm = 2

abbrev pub sed : ℕ
sed = 3

abbrev pub bmp : ℕ
bmp = 4

abbrev pub asc : ℕ
asc = 5

abbrev pub bcd : ℕ
bcd = 6

abbrev pub bmm : ℕ
bmm = 7

abbrev pub sfp : ℕ
sfp = 8

abbrev pub pkt : ℕ
pkt = 9

-- The 32-bit pattern of -n in two's complement.
abbrev pub neg : ℕ → ℕ
neg n = 2 ^ 32 - n

-- A PRN row: PRN; form, width and number of its SLOT.
abbrev pub prn : ℕ → ℕ → ℕ → ℕ → PrnRow
prn p f w s = record { prn = p; form = f; width = w; slot = s }

-- A SLOT row: form, width, number; multiplier, divisor, offset; lowest and highest raw number.
abbrev pub slot : ℕ → ℕ → ℕ → ℕ → ℕ → ℕ → ℕ → ℕ → SlotRow
slot f w n m d o l h =
    record { form = f; width = w; number = n; multiplier = m; divisor = d; offset = o; lowest = l; highest = h }

-- The order of 32-bit patterns as signed numbers: half of their range higher, no pattern is negative.
abbrev pub signed_le : ℕ → ℕ → Bool
signed_le x y = leb ((x + 2 ^ 31) % 2 ^ 32) ((y + 2 ^ 31) % 2 ^ 32)

-- "lowest not above highest (as signed for SNM)"
unfoldable pub in_order : ℕ → ℕ → ℕ → Bool
in_order form lowest highest = cond (eqb form snm) (signed_le lowest highest) (leb lowest highest)

-- "form 1 to 9 (UNM, SNM, SED, BMP, ASC, BCD, BMM, SFP, PKT); width 1 to 64"
abbrev pub widest : ℕ
widest = 64

unfoldable pub key_fits : ℕ → ℕ → Bool
key_fits form width = leb unm form && leb form pkt && (leb 1 width && leb width widest)

-- The ranges of a PRN row.
unfoldable pub prn_fits : PrnRow → Bool
prn_fits r = key_fits r.form r.width

-- The ranges of a SLOT row; "divisor at least 1".
unfoldable pub slot_fits : SlotRow → Bool
slot_fits r = key_fits r.form r.width && leb 1 r.divisor && in_order r.form r.lowest r.highest

-- Each field is a number of as many bytes as document 01 gives it; form and width are by their ranges.
unfoldable pub prn_sized : PrnRow → Bool
prn_sized r = ltb r.prn (2 ^ 16) && ltb r.slot (2 ^ 16)

unfoldable pub slot_sized : SlotRow → Bool
slot_sized r =
    ltb r.number (2 ^ 16)
    && ltb r.multiplier (2 ^ 16)
    && ltb r.divisor (2 ^ 16)
    && ltb r.offset (2 ^ 32)
    && ltb r.lowest (2 ^ 32)
    && ltb r.highest (2 ^ 32)
