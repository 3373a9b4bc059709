-- The first byte: document 01, "The frame", first and fourth rule; the header byte of document 002.
use Rattle.std.specs.Prelude.{ℕ, ◌/◌, ◌%◌, cond, List, [], ◌∷◌, eqb, get_or}
use Rattle.frame.specs.declared.response.ResponseKind.{ResponseKind}
use Rattle.frame.specs.declared.response.ResponseKind.TheVariants.{Empty, Single, Several, Data, Unassigned}

-- "bits 7 to 5 priority, bit 4 H, bit 3 K"
abbrev pub priority : ℕ → ℕ
priority b = b / 32

abbrev pub bit_h : ℕ → ℕ
bit_h b = b / 16 % 2

abbrev pub bit_k : ℕ → ℕ
bit_k b = b / 8 % 2

-- "the message type KYZZ (0 to 15)": bits 3 to 0.
abbrev pub message_type : ℕ → ℕ
message_type b = b % 16

-- "H = 0: three header bytes (type, target, source)."
abbrev pub three_byte_form : ℕ
three_byte_form = 3

-- "H = 1: one, with the same bits"
abbrev pub one_byte_form : ℕ
one_byte_form = 1

-- How many header bytes H asks for. An empty run counts as if it began with 0.
unfoldable pub header_size : List ℕ → ℕ
header_size run = cond (eqb (bit_h (get_or run 0 0)) 0) three_byte_form one_byte_form

-- The sixteen types of document 000, table 5, each with its response kind or none.
unfoldable pub type_table : List ResponseKind
type_table =
    Several ∷ Single ∷ Several ∷ Data ∷ Single ∷ Unassigned ∷ Unassigned ∷ Unassigned
    ∷ Empty ∷ Empty ∷ Empty ∷ Empty ∷ Empty ∷ Empty ∷ Empty ∷ Empty ∷ []

unfoldable pub response_kind : ℕ → ResponseKind
response_kind t = get_or type_table t Unassigned

-- The response kind that a run's first byte asks for.
unfoldable pub kind_asked : List ℕ → ResponseKind
kind_asked run = response_kind (message_type (get_or run 0 0))
