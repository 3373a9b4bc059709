-- The refusals of the adapter's stream: document 02, K4. They join document 01's list; 8 is the frame's.
use Rattle.std.specs.Prelude.{ℕ}
use Rattle.frame.specs.Refusal.{output_short}
use Rattle.stream.specs.declared.refusal.Refusal.{Refusal}
use Rattle.stream.specs.declared.refusal.Refusal.TheVariants.{OutputShort, KindUnknown, RecordWrong, Cut}

-- "unknown kind (that byte is taken)"
abbrev pub stream_kind_unknown : ℕ
stream_kind_unknown = 60

-- "lengths over 12 together or unused bytes not zero"
abbrev pub stream_record_wrong : ℕ
stream_record_wrong = 61

-- "stream ended inside a record"
abbrev pub stream_cut : ℕ
stream_cut = 62

abbrev pub number_of : Refusal → ℕ
number_of OutputShort = output_short
number_of KindUnknown = stream_kind_unknown
number_of RecordWrong = stream_record_wrong
number_of Cut = stream_cut
