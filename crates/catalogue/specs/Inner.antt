-- What only inner functions cite: places of records, what loops keep, the keys of SAE rows, the filter of keys. No public contract
-- reaches here.
use Rattle.std.specs.Prelude.{ℕ, ◌+◌, ◌-◌, ◌*◌, ◌/◌, ◌%◌, ◌^◌, ◌≤◌, ◌<◌, ◌≡◌, Bool, true, cond, eqb, length, take, drop, get_or}
use mathlib.Core.List.{List, Memᴰ}
use Rattle.std.specs.Int.Bits.{bit_and}
use Rattle.catalogue.specs.Kind.{record_size}
use Rattle.catalogue.specs.Record.{record_kind, key_of, record_with, two, most_prns, prns_at}
use Rattle.catalogue.specs.Supplement.{records_of, Checked, check_from, check, Whole}

-- The record that starts at a place.
abbrev pub record_from : List ℕ → ℕ → List ℕ
record_from s at = take (record_size (get_or s at 0)) (drop at s)

-- The search at a place: what is sought among all records is sought among those from there on, and the size kept is that of the kind.
pub record Seeking (s key : List ℕ) (at kind size : ℕ) : Type 0 where
  pub rest : record_with key (records_of s) ≡ record_with key (records_of (drop at s))
  pub within : at ≤ length s
  pub sized : size ≡ record_size kind

-- The first PRNs of a layout record, read into an array of zeros.
pub record PrnsRead (r prns : List ℕ) (n : ℕ) : Type 0 where
  pub each : (j : ℕ) → j < n → get_or prns j 0 ≡ two r (prns_at + j * 2)
  pub rest : (j : ℕ) → n ≤ j → get_or prns j 0 ≡ 0
  pub room : length prns ≡ most_prns
  pub most : n ≤ most_prns

-- A number is the key that is sought.
abbrev pub key_is : ℕ → ℕ → Bool
key_is key k = eqb k key

-- The place of a key's bit: the bits of a filter, and what spreads kinds and keys over them.
abbrev pub filter_bits : ℕ
filter_bits = 65536

abbrev pub kind_step : ℕ
kind_step = 21845

abbrev pub key_step : ℕ
key_step = 40503

abbrev pub last_step : ℕ
last_step = 256

unfoldable pub bit_of : List ℕ → ℕ
bit_of key = (record_kind key * kind_step + two key 1 * key_step + two key 3 + get_or key 5 0 * last_step) % filter_bits

abbrev pub word_bits : ℕ
word_bits = 64

-- The word that has a bit, and whether the bit is set; a filter of no words counts as full.
abbrev pub word_of : List ℕ → ℕ → ℕ
word_of f bit = bit_and (bit / word_bits) (length f - 1)

-- What a word has at the place of a bit.
abbrev pub bit_in : ℕ → ℕ → ℕ
bit_in word bit = word / 2 ^ (bit % word_bits) % 2

unfoldable pub marked : List ℕ → ℕ → Bool
marked f bit = cond (eqb (length f) 0) true (eqb (bit_in (get_or f (word_of f bit) 0) bit) 1)

-- A key is marked: its bit is set, those set before stay so, and the answer is whether it was set before.
pub record Marks (before after key : List ℕ) (answer : Bool) : Type 0 where
  pub told : answer ≡ marked before (bit_of key)
  pub set : marked after (bit_of key) ≡ true
  pub kept : (bit : ℕ) → marked before bit ≡ true → marked after bit ≡ true

-- Every record has its bit.
abbrev pub Covers : List ℕ → List (List ℕ) → Type 0
Covers f rs = (r : List ℕ) → Memᴰ r rs → marked f (bit_of (key_of r)) ≡ true

-- The test of the records from a place on, after those before it.
abbrev pub test_from : List ℕ → ℕ → Checked
test_from s at = check_from (records_of (take at s)) at (records_of (drop at s))

-- The test at a place: what is told of all is told from there on, and the records before it are whole and have their bits in the filter.
pub record Passed (s f : List ℕ) (at : ℕ) : Type 0 where
  pub test : check s ≡ test_from s at
  pub whole : Whole (take at s)
  pub within : at ≤ length s
  pub covers : Covers f (records_of (take at s))
