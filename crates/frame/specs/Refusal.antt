-- Refusals, and rules in an order, for every call of every layer: document 01, "Refusal numbers".
use Rattle.std.specs.Prelude.{ℕ, ◌+◌, Bool, cond, List, [], ◌∷◌, eqb, Result, Ok, Err}
use Rattle.frame.specs.declared.refusal.Refusal.{Refusal}
use Rattle.frame.specs.declared.refusal.Refusal.TheVariants as frame

abbrev pub no_refusal : ℕ
no_refusal = 0

-- "more than 12 bytes in all"
abbrev pub too_long : ℕ
too_long = 1

-- "first run shorter than its header and check byte, or empty"
abbrev pub too_short : ℕ
too_short = 2

-- "check byte wrong"
abbrev pub check_wrong : ℕ
check_wrong = 3

-- "K = 0 type unassigned"
abbrev pub type_unassigned : ℕ
type_unassigned = 4

-- "check byte of a kind 3 response wrong"
abbrev pub response_check_wrong : ℕ
response_check_wrong = 6

-- "writer: header not 1 or 3 bytes, or not the length H says"
abbrev pub header_wrong : ℕ
header_wrong = 7

-- "lent output shorter than the result"
abbrev pub output_short : ℕ
output_short = 8

-- "a first byte with H = 1 or K = 0", on ISO 9141-2: document 02, K1.
abbrev pub first_byte_wrong : ℕ
first_byte_wrong = 9

-- "bytes where K = 1 forbids them": document 02, K2, as the next three.
abbrev pub response_forbidden : ℕ
response_forbidden = 50

-- "nothing where K = 0 requires something"
abbrev pub response_missing : ℕ
response_missing = 51

-- "some but too few"
abbrev pub response_too_few : ℕ
response_too_few = 52

-- "too many for kind 1"
abbrev pub response_too_many : ℕ
response_too_many = 53

-- The number of each refusal of frames.
abbrev pub number_of : Refusal → ℕ
number_of frame.TooLong = too_long
number_of frame.TooShort = too_short
number_of frame.CheckWrong = check_wrong
number_of frame.TypeUnassigned = type_unassigned
number_of frame.ResponseCheckWrong = response_check_wrong
number_of frame.HeaderWrong = header_wrong
number_of frame.OutputShort = output_short
number_of frame.FirstByteWrong = first_byte_wrong
number_of frame.ResponseForbidden = response_forbidden
number_of frame.ResponseMissing = response_missing
number_of frame.ResponseTooFew = response_too_few
number_of frame.ResponseTooMany = response_too_many

-- A refusal with its number, or what was asked for.
pub data Outcome (A : Type 0) : Type 0 where
  refused : ℕ → Outcome A
  accepted : A → Outcome A

-- What a call gives: the number of its refusal, or what is told of what it made.
abbrev pub outcome_by : {A B E : Type 0} → (A → B) → (E → ℕ) → Result A E → Outcome B
outcome_by told number (Ok a) = accepted (told a)
outcome_by told number (Err e) = refused (number e)

-- The number of a test's refusal, or no refusal.
abbrev pub told_by : {A E : Type 0} → (E → ℕ) → Result A E → ℕ
told_by number (Ok a) = no_refusal
told_by number (Err e) = number e

-- A refusal's number, and whether its rule is broken.
pub record Rule : Type 0 where
  pub number : ℕ
  pub broken : Bool

-- The number of the first broken rule, or no refusal.
unfoldable pub first_broken : List Rule → ℕ
first_broken [] = no_refusal
first_broken (r ∷ rs) = cond r.broken r.number (first_broken rs)

-- How many rules are broken.
unfoldable pub times_broken : List Rule → ℕ
times_broken [] = 0
times_broken (r ∷ rs) = cond r.broken 1 0 + times_broken rs

-- Accepted if there is no refusal.
abbrev pub outcome : {A : Type 0} → ℕ → A → Outcome A
outcome n a = cond (eqb n no_refusal) (accepted a) (refused n)
