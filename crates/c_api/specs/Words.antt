-- The number that each exported call answers: the refusal in its low byte, 0 for none, and what was accepted above it.
use Rattle.std.specs.Prelude.{ℕ, ◌+◌, ◌*◌, ◌^◌, Option, None, Some}
use Rattle.frame.specs.Refusal.{Outcome, refused, accepted}
use Rattle.frame.specs.Frame.{Sizes, Runs}
use Rattle.catalogue.specs.Supplement.{Checked}
use Rattle.report.specs.Answer.{Answer}
use Rattle.report.specs.Answer as answer

-- What one counts for in bytes 1 to 4 of an answer.
abbrev pub byte1 : ℕ
byte1 = 2 ^ 8

abbrev pub byte2 : ℕ
byte2 = 2 ^ 16

abbrev pub byte3 : ℕ
byte3 = 2 ^ 24

abbrev pub byte4 : ℕ
byte4 = 2 ^ 32

-- Byte 1 the header's length, byte 2 that of the data, byte 3 the response kind, byte 4 the response's length without check byte.
abbrev pub read_word : Outcome Sizes → ℕ
read_word (refused n) = n
read_word (accepted s) = s.header * byte1 + s.body * byte2 + s.kind * byte3 + s.response * byte4

-- Byte 1 the length of the first run, byte 2 that of the response, 0 where a bus has none.
abbrev pub write_word : Outcome Runs → ℕ
write_word (refused n) = n
write_word (accepted r) = r.first * byte1 + r.response * byte2

-- From byte 1 on the place of the record with the fault.
abbrev pub check_word : Checked → ℕ
check_word c = c.refusal + c.place * byte1

-- From byte 1 on the length of the rows, or the place of the record with the fault.
abbrev pub report_word : Answer ℕ → ℕ
report_word (answer.refused n place) = n + place * byte1
report_word (answer.shown size) = size * byte1

-- Byte 1 is 1 if a frame is given, byte 2 the length of its first run, byte 3 that of its second.
abbrev pub stream_word : Option (Outcome Runs) → ℕ
stream_word None = 0
stream_word (Some (refused n)) = n
stream_word (Some (accepted r)) = byte1 + r.first * byte2 + r.response * byte3
