-- Rows as bytes: document 01, "As bytes, rows of kind and body".
use Rattle.std.specs.Prelude.{ℕ, zero, suc, ◌+◌, ◌-◌, ◌*◌, ◌/◌, ◌%◌, ◌^◌, List, [], ◌∷◌, ◌++◌, ℤ, pos, negsuc, Float}
use Rattle.std.specs.Float.{binary64}
use Rattle.std.specs.Float.Ieee.{to_bits}
use Rattle.catalogue.specs.Record.{most_prns}
use Rattle.report.specs.declared.line.Line.{Line}
use Rattle.report.specs.declared.line.Line.TheVariants.{Number, State, Bits, Text, Digits, Invalid, Short, Unknown, Left, Answered}
use Rattle.report.specs.declared.row.RowKind.{RowKind}
use Rattle.report.specs.declared.row.RowKind.TheVariants as kind
use Rattle.report.specs.Line.{reason_number}
use Rattle.report.specs.Report.{Report, lines_of, verdict}

-- The kind of the verdict's row, the last one.
abbrev pub verdict_row_kind : ℕ
verdict_row_kind = 11

-- The kinds of rows by number.
abbrev pub kind_of_row : RowKind → ℕ
kind_of_row kind.Number = 1
kind_of_row kind.State = 2
kind_of_row kind.Bits = 3
kind_of_row kind.Text = 4
kind_of_row kind.Digits = 5
kind_of_row kind.Invalid = 6
kind_of_row kind.Short = 7
kind_of_row kind.Unknown = 8
kind_of_row kind.Left = 9
kind_of_row kind.Answered = 10
kind_of_row kind.Verdict = verdict_row_kind

-- Bytes of a Number's parts, "the double, the whole number (8, signed), the divisor (2)" (document 02, K3), and of a code.
abbrev pub double_bytes : ℕ
double_bytes = 8

abbrev pub whole_bytes : ℕ
whole_bytes = 8

abbrev pub divisor_bytes : ℕ
divisor_bytes = 2

abbrev pub code_bytes : ℕ
code_bytes = 4

-- Bytes of a row: a kind, and a Number's parts, a code, a byte or nothing.
abbrev pub number_row_size : ℕ
number_row_size = 1 + double_bytes + whole_bytes + divisor_bytes

abbrev pub code_row_size : ℕ
code_row_size = 1 + code_bytes

abbrev pub byte_row_size : ℕ
byte_row_size = 1 + 1

abbrev pub bare_row_size : ℕ
bare_row_size = 1

-- The bytes of a report at the most: a Number for each of "up to sixteen item lines, then a remainder line, a response line and the
-- verdict".
abbrev pub rows_most : ℕ
rows_most = number_row_size * most_prns + byte_row_size + byte_row_size + byte_row_size

-- A number in so many bytes, the most significant first.
unfoldable pub big_endian : ℕ → ℕ → List ℕ
big_endian zero x = []
big_endian (suc n) x = x / 256 ^ n % 256 ∷ big_endian n x

-- The bits of a signed number of 64 bits, in two's complement.
abbrev pub twos_complement : ℤ → ℕ
twos_complement (pos n) = n
twos_complement (negsuc n) = 2 ^ 64 - suc n

-- The three parts of a Number, one behind the other.
abbrev pub number_body : Float → ℤ → ℕ → List ℕ
number_body x n d =
    big_endian double_bytes (to_bits binary64 x) ++ big_endian whole_bytes (twos_complement n) ++ big_endian divisor_bytes d

-- The row of each case of the enum, its kind first.
unfoldable pub row : Line → List ℕ
row (Number x n d) = 1 ∷ number_body x n d
row (State n) = 2 ∷ big_endian code_bytes n
row (Bits n) = 3 ∷ big_endian code_bytes n
row (Text n) = 4 ∷ big_endian code_bytes n
row (Digits n) = 5 ∷ big_endian code_bytes n
row (Invalid n) = 6 ∷ big_endian code_bytes n
row Short = 7 ∷ []
row (Unknown n) = 8 ∷ reason_number n ∷ []
row (Left n) = 9 ∷ n ∷ []
row (Answered n) = 10 ∷ n ∷ []

unfoldable pub rows_of : List Line → List ℕ
rows_of [] = []
rows_of (l ∷ ls) = row l ++ rows_of ls

abbrev pub verdict_row : ℕ → List ℕ
verdict_row v = verdict_row_kind ∷ v ∷ []

-- The rows of a report, the verdict's last.
unfoldable pub report_bytes : Report → List ℕ
report_bytes r = rows_of (lines_of r) ++ verdict_row (verdict r)
