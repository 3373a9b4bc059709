-- P1 to P13 of document 01, "Bench cases", in its order, each Number with its fraction: one table, read beside the paper; one of its whole
-- report; one of the refusals of ISO 9141-2; and those of document 02, K5, of selectors in reports and in the test of a supplement.
use Rattle.std.specs.Prelude.{Option, None, Some, ℕ, ◌⊎◌, List, [], ◌∷◌, ◌++◌, ℤ, pos, neg_ℤ, replicate}
use Rattle.std.proofs.Common.{inl, inr}
use Rattle.std.specs.Float.{binary64}
use Rattle.std.specs.Float.Ieee.{of_int}
use Rattle.frame.specs.Reader.{read_refusal}
use Rattle.frame.specs.Iso.{iso_read_refusal}
use Rattle.catalogue.specs.declared.rows.SlotRow.{SlotRow}
use Rattle.catalogue.specs.Rows.{unm, snm, slot, neg}
use Rattle.catalogue.specs.Sae.{sae_slot}
use Rattle.report.specs.declared.line.Line.{Line}
use Rattle.report.specs.declared.line.Line.TheVariants.{Number, Invalid, Unknown}
use Rattle.report.specs.Line.{no_slot_reason}
use Rattle.report.specs.Scaling.{form_line}
use Rattle.report.specs.Answer.{Answer, refused, shown, j1850_answer}

-- An item: its SLOT, its raw number and the line expected. A frame of J1850: its two runs and the refusal expected. A message of
-- ISO 9141-2: its run and the refusal expected. A report: its supplement, its first run, how many bytes are lent, and the answer expected.
pub data Case : Type 0 where
  item : Option SlotRow → ℕ → Line → Case
  frame : List ℕ → List ℕ → ℕ → Case
  message : List ℕ → ℕ → Case
  report : List ℕ → List ℕ → ℕ → Answer (List ℕ) → Case

-- The value that document 01 names, as a double, beside the fraction that gives it.
abbrev pub number : ℤ → ℤ → ℕ → Line
number value n d = Number (of_int binary64 value) n d

-- P9 and P10: "SNM width 8, multiplier and divisor 1, offset 0, limits -128 to 127".
abbrev pub signed_byte : SlotRow
signed_byte = slot snm 8 1 1 1 0 (neg 128) 127

unfoldable pub bench_cases : List Case
bench_cases =
    -- P1: UNM-08-77 raw 150: 100, as 300/3. P2: raw 151: Invalid.
    item (sae_slot unm 8 77) 150 (number (pos 100) (pos 300) 3)
    ∷ item (sae_slot unm 8 77) 151 (Invalid 151)
    -- P3: UNM-08-82 raw 240: 90, as 360/4. P4: raw 241: Invalid.
    ∷ item (sae_slot unm 8 82) 240 (number (pos 90) (pos 360) 4)
    ∷ item (sae_slot unm 8 82) 241 (Invalid 241)
    -- P5: UNM-08-92 raw 0: -100, as -12800/128. P6: raw 128: 0, as 0/128.
    ∷ item (sae_slot unm 8 92) 0 (number (neg_ℤ (pos 100)) (neg_ℤ (pos 12800)) 128)
    ∷ item (sae_slot unm 8 92) 128 (number (pos 0) (pos 0) 128)
    -- P7: UNM-16-3 raw 0: -70, as -17920/256. P8: UNM-08-102 raw 39: -1, as -1/1.
    ∷ item (sae_slot unm 16 3) 0 (number (neg_ℤ (pos 70)) (neg_ℤ (pos 17920)) 256)
    ∷ item (sae_slot unm 8 102) 39 (number (neg_ℤ (pos 1)) (neg_ℤ (pos 1)) 1)
    -- P9: raw 80h is -128, as -128/1. P10: raw FFh is -1, as -1/1.
    ∷ item (Some signed_byte) 0x80 (number (neg_ℤ (pos 128)) (neg_ℤ (pos 128)) 1)
    ∷ item (Some signed_byte) 0xFF (number (neg_ℤ (pos 1)) (neg_ℤ (pos 1)) 1)
    -- P11: empty frame: 2. P12: H = 0, three bytes: 2. P13: thirteen bytes: 1.
    ∷ frame [] [] 2
    ∷ frame (0x48 ∷ 0x6B ∷ 0x10 ∷ []) [] 2
    ∷ frame (0x48 ∷ 0x6B ∷ 0x10 ∷ 0x41 ∷ 1 ∷ 2 ∷ 3 ∷ 4 ∷ 5 ∷ 6 ∷ 7 ∷ 8 ∷ 9 ∷ []) [] 1
    ∷ []

-- "Whole report. Supplement: layout 08h, 6Bh, 1, 41h, count 2, PRNs 1025h and 100Bh."; "document 01's layouts gain zeros".
abbrev pub whole_supplement : List ℕ
whole_supplement = 3 ∷ 0x08 ∷ 0x6B ∷ 1 ∷ 0x41 ∷ 0 ∷ 2 ∷ 0x10 ∷ 0x25 ∷ 0x10 ∷ 0x0B ∷ replicate 28 0

-- "Frame 48 6B 10 41 65 80 and its check byte, no response."
abbrev pub whole_frame : List ℕ
whole_frame = 0x48 ∷ 0x6B ∷ 0x10 ∷ 0x41 ∷ 0x65 ∷ 0x80 ∷ 0x29 ∷ []

-- The two Numbers, 101 as 101/1 and 0 as 0/128: a kind, then "the double, the whole number (8, signed), the divisor (2)".
abbrev pub whole_numbers : List ℕ
whole_numbers =
    1 ∷ 0x40 ∷ 0x59 ∷ 0x40 ∷ 0 ∷ 0 ∷ 0 ∷ 0 ∷ 0 ∷ 0 ∷ 0 ∷ 0 ∷ 0 ∷ 0 ∷ 0 ∷ 0 ∷ 0x65 ∷ 0 ∷ 1
    ∷ 1 ∷ 0 ∷ 0 ∷ 0 ∷ 0 ∷ 0 ∷ 0 ∷ 0 ∷ 0 ∷ 0 ∷ 0 ∷ 0 ∷ 0 ∷ 0 ∷ 0 ∷ 0 ∷ 0 ∷ 0 ∷ 0x80 ∷ []

-- "Document 01's whole report becomes 44 bytes": behind the Numbers 09 00, 0A 00, 0B 01. One byte less is too short. "One data byte more,
-- within 12: 09 08 and 0B 02."
unfoldable pub whole_cases : List Case
whole_cases =
    report whole_supplement whole_frame 44 (shown (whole_numbers ++ 9 ∷ 0 ∷ 10 ∷ 0 ∷ 11 ∷ 1 ∷ []))
    ∷ report whole_supplement whole_frame 43 (refused 8 0)
    ∷ report whole_supplement (0x48 ∷ 0x6B ∷ 0x10 ∷ 0x41 ∷ 0x65 ∷ 0x80 ∷ 0x99 ∷ 0x57 ∷ []) 44
    (shown (whole_numbers ++ 9 ∷ 8 ∷ 10 ∷ 0 ∷ 11 ∷ 2 ∷ []))
    ∷ []

-- A layout of header 08h 6Bh with one PRN, and with none; a kind 4 record of that header.
abbrev pub one_item : ℕ → ℕ → ℕ → ℕ → ℕ → List ℕ
one_item size a b high low = 3 ∷ 0x08 ∷ 0x6B ∷ size ∷ a ∷ b ∷ 1 ∷ high ∷ low ∷ replicate 30 0

abbrev pub no_items : ℕ → ℕ → ℕ → List ℕ
no_items size a b = 3 ∷ 0x08 ∷ 0x6B ∷ size ∷ a ∷ b ∷ 0 ∷ replicate 32 0

abbrev pub selector : ℕ → List ℕ
selector size = 4 ∷ 0x08 ∷ 0x6B ∷ size ∷ []

-- The row of a whole Number with divisor 1 whose double begins 40h, this byte, 40h: 101 has 59h there, 65 has 50h.
abbrev pub small : ℕ → ℕ → List ℕ
small double n = 1 ∷ 0x40 ∷ double ∷ 0x40 ∷ 0 ∷ 0 ∷ 0 ∷ 0 ∷ 0 ∷ 0 ∷ 0 ∷ 0 ∷ 0 ∷ 0 ∷ 0 ∷ 0 ∷ n ∷ 0 ∷ 1 ∷ []

-- The frame of 41h 65h, and what is shown of it by one layout for the selector 41h; and by one without a selector beside a kind 4 record.
abbrev pub short_frame : List ℕ
short_frame = 0x48 ∷ 0x6B ∷ 0x10 ∷ 0x41 ∷ 0x65 ∷ 0x43 ∷ []

-- PRN 1025h, 8 bits.
abbrev pub one_byte_selector : List ℕ
one_byte_selector = one_item 1 0x41 0 0x10 0x25

abbrev pub no_selector : List ℕ
no_selector = one_byte_selector ++ (selector 0 ++ one_item 0 0 0 0x10 0x25)

abbrev pub one_byte_rows : List ℕ
one_byte_rows = small 0x59 0x65 ++ 9 ∷ 0 ∷ 10 ∷ 0 ∷ 11 ∷ 1 ∷ []

abbrev pub no_selector_rows : List ℕ
no_selector_rows = small 0x50 0x41 ++ 9 ∷ 8 ∷ 10 ∷ 0 ∷ 11 ∷ 2 ∷ []

-- Document 02, K5, in reports.
unfoldable pub selector_cases : List Case
selector_cases =
    -- a J1979 answer with test mode and PID as selector, PRN 000Ch (16 bits): 1726 as 6904/4
    report (selector 2 ++ one_item 2 0x41 0x0C 0 0x0C) (0x48 ∷ 0x6B ∷ 0x10 ∷ 0x41 ∷ 0x0C ∷ 0x1A ∷ 0xF8 ∷ 0xB2 ∷ []) 25
    (shown (1 ∷ 0x40 ∷ 0x9A ∷ 0xF8 ∷ 0 ∷ 0 ∷ 0 ∷ 0 ∷ 0 ∷ 0 ∷ 0 ∷ 0 ∷ 0 ∷ 0 ∷ 0 ∷ 0x1A ∷ 0xF8 ∷ 0 ∷ 4 ∷ 9 ∷ 0 ∷ 10 ∷ 0 ∷ 11 ∷ 1 ∷ []))
    -- a header with length 0 whose first data byte is its first item
    ∷ report (selector 0 ++ one_item 0 0 0 0x10 0x25) (0x48 ∷ 0x6B ∷ 0x10 ∷ 0x65 ∷ 0xC8 ∷ []) 25 (shown one_byte_rows)
    -- "If the data are shorter than the length, the selector is what there is.": one byte of two, none of two, none of one
    ∷ report (selector 2 ++ no_items 1 0x41 0) (0x48 ∷ 0x6B ∷ 0x10 ∷ 0x41 ∷ 0x3B ∷ []) 6 (shown (9 ∷ 0 ∷ 10 ∷ 0 ∷ 11 ∷ 1 ∷ []))
    ∷ report (selector 2 ++ no_items 0 0 0) (0x48 ∷ 0x6B ∷ 0x10 ∷ 0x41 ∷ []) 6 (shown (9 ∷ 0 ∷ 10 ∷ 0 ∷ 11 ∷ 1 ∷ []))
    ∷ report (no_items 0 0 0) (0x48 ∷ 0x6B ∷ 0x10 ∷ 0x41 ∷ []) 6 (shown (9 ∷ 0 ∷ 10 ∷ 0 ∷ 11 ∷ 1 ∷ []))
    -- "a header without one keeps length 1": a layout of length 2 is not the one sought, nor is one of length 1 where the length is 2
    ∷ report (no_items 2 0x41 0x65) short_frame 6 (shown (8 ∷ 8 ∷ 10 ∷ 0 ∷ 11 ∷ 3 ∷ []))
    ∷ report (selector 2 ++ one_byte_selector) short_frame 6 (shown (8 ∷ 8 ∷ 10 ∷ 0 ∷ 11 ∷ 3 ∷ []))
    -- one layout for the selector 41h; and one without a selector beside it
    ∷ report one_byte_selector short_frame 25 (shown one_byte_rows)
    ∷ report no_selector short_frame 25 (shown no_selector_rows)
    ∷ []

-- Document 02, K5, in the test of a supplement; nothing is lent, so that an accepted one gives 8.
unfoldable pub record_cases : List Case
record_cases =
    -- "selector length 0, 1 or 2", in both kinds
    report (selector 2) short_frame 0 (refused 8 0)
    ∷ report (selector 3) short_frame 0 (refused 13 0)
    ∷ report (no_items 3 0x41 0x0C) short_frame 0 (refused 13 0)
    -- "unused ones zero"
    ∷ report (no_items 2 0x41 0x0C) short_frame 0 (refused 8 0)
    ∷ report (no_items 1 0x41 0x0C) short_frame 0 (refused 13 0)
    ∷ report (no_items 0 0x41 0) short_frame 0 (refused 13 0)
    -- "which obey a layout's ranges": priority bits with H = 0, a target with H = 1
    ∷ report (4 ∷ 0x48 ∷ 0x6B ∷ 0 ∷ []) short_frame 0 (refused 13 0)
    ∷ report (4 ∷ 0x5A ∷ 0x6B ∷ 0 ∷ []) short_frame 0 (refused 13 0)
    ∷ report (4 ∷ 0x5A ∷ 0 ∷ 0 ∷ []) short_frame 0 (refused 8 0)
    -- "keyed by the first two"; of a layout "the key is the first five fields"
    ∷ report (selector 2 ++ selector 1) short_frame 0 (refused 14 4)
    ∷ report (no_items 2 0x41 0x0C ++ no_items 2 0x41 0x0D) short_frame 0 (refused 8 0)
    ∷ report (no_items 2 0x41 0x0C ++ no_items 2 0x41 0x0C) short_frame 0 (refused 14 39)
    -- a record cut by the end: a kind 4 record of three bytes, and a layout of the former form
    ∷ report (selector 2 ++ 4 ∷ 0x08 ∷ 0x6A ∷ []) short_frame 0 (refused 12 4)
    ∷ report (3 ∷ 0x08 ∷ 0x6B ∷ 1 ∷ 0x41 ∷ 0 ∷ replicate 32 0) short_frame 0 (refused 12 0)
    ∷ []

-- Document 02, K1: "Refusals: 1, 2 (below four bytes), 3, then 9 for a first byte with H = 1 or K = 0".
unfoldable pub iso_cases : List Case
iso_cases =
    -- a header of 68h 6Ah F1h with data and its sum; four bytes are the least
    message (0x68 ∷ 0x6A ∷ 0xF1 ∷ 0x01 ∷ 0x0C ∷ 0xD0 ∷ []) 0
    ∷ message (0x68 ∷ 0x6A ∷ 0xF1 ∷ 0xC3 ∷ []) 0
    ∷ message (0x68 ∷ 0x6A ∷ 0xD2 ∷ []) 2
    ∷ message [] 2
    -- twelve bytes are the most
    ∷ message (0x48 ∷ 0x6B ∷ 0x10 ∷ 1 ∷ 2 ∷ 3 ∷ 4 ∷ 5 ∷ 6 ∷ 7 ∷ 8 ∷ 0xE7 ∷ []) 0
    ∷ message (0x48 ∷ 0x6B ∷ 0x10 ∷ 1 ∷ 2 ∷ 3 ∷ 4 ∷ 5 ∷ 6 ∷ 7 ∷ 8 ∷ 9 ∷ 0xF0 ∷ []) 1
    -- another check byte; H = 1; K = 0; both faults
    ∷ message (0x68 ∷ 0x6A ∷ 0xF1 ∷ 0xC4 ∷ []) 3
    ∷ message (0x78 ∷ 0x6A ∷ 0xF1 ∷ 0xD3 ∷ []) 9
    ∷ message (0x60 ∷ 0x6A ∷ 0xF1 ∷ 0xBB ∷ []) 9
    ∷ message (0x60 ∷ 0x6A ∷ 0xF1 ∷ 0xBC ∷ []) 3
    ∷ []

-- The line of a raw number by its SLOT; "no SLOT of that form, width and number, Unknown 3".
unfoldable pub line_by : Option SlotRow → ℕ → Line
line_by None raw = Unknown no_slot_reason
line_by (Some s) raw = form_line s.form s.width s raw

-- What the definitions answer in a case, and what is expected of them.
unfoldable pub answered : Case → Line ⊎ (ℕ ⊎ Answer (List ℕ))
answered (item s raw l) = inl (line_by s raw)
answered (frame first response n) = inr (inl (read_refusal first response))
answered (message run n) = inr (inl (iso_read_refusal run))
answered (report s first room a) = inr (inr (j1850_answer s first [] room))

unfoldable pub expected : Case → Line ⊎ (ℕ ⊎ Answer (List ℕ))
expected (item s raw l) = inl l
expected (frame first response n) = inr (inl n)
expected (message run n) = inr (inl n)
expected (report s first room a) = inr (inr a)
