-- The response, which follows EOD: document 01, "The frame", fourth and fifth rule. How many bytes it may have: Count.antt.
use Rattle.std.specs.Prelude.{ℕ, ◌-◌, ◌≤◌, ◌≡◌, Bool, true, cond, List, eqb, length}
use Rattle.frame.specs.declared.response.ResponseKind.{ResponseKind}
use Rattle.frame.specs.declared.response.ResponseKind.TheVariants.{Empty, Single, Several, Data, Unassigned}
use Rattle.frame.specs.CheckByte.{sealed, is_sealed}

-- "response kind 0, empty"
abbrev pub kind_empty : ℕ
kind_empty = 0

-- "Kind 1: exactly one address byte."
abbrev pub kind_single : ℕ
kind_single = 1

-- "Kind 2: one or more address bytes."
abbrev pub kind_several : ℕ
kind_several = 2

-- "Kind 3: one or more data bytes, then a check byte over those data alone."
abbrev pub kind_data : ℕ
kind_data = 3

-- An unassigned type has no kind; this number tells it apart and is handed over nowhere.
abbrev pub kind_none : ℕ
kind_none = 4

abbrev pub kind_number : ResponseKind → ℕ
kind_number Empty = kind_empty
kind_number Single = kind_single
kind_number Several = kind_several
kind_number Data = kind_data
kind_number Unassigned = kind_none

abbrev pub is_unassigned : ResponseKind → Bool
is_unassigned kind = eqb (kind_number kind) kind_none

-- Only a kind 3 response has a check byte of its own.
abbrev pub is_checked : ResponseKind → Bool
is_checked kind = eqb (kind_number kind) kind_data

-- A response as it is sent: kind 3 data get a check byte over those data alone.
unfoldable pub sent : ResponseKind → List ℕ → List ℕ
sent kind response = cond (is_checked kind) (sealed response) response

-- How many of a response's n bytes are not its check byte.
unfoldable pub response_size : ResponseKind → ℕ → ℕ
response_size kind n = cond (is_checked kind) (n - 1) n

-- What a response must be as it is sent, by its kind.
abbrev pub ResponseObeys : ResponseKind → List ℕ → Type 0
ResponseObeys Empty response = length response ≡ 0
ResponseObeys Single response = length response ≡ 1
ResponseObeys Several response = 1 ≤ length response
ResponseObeys Data response = (2 ≤ length response) × (is_sealed response ≡ true)
ResponseObeys Unassigned response = ⊥
