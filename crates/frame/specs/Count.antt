-- How many bytes a response may have, for reader and writer: document 02, K2.
use Rattle.std.specs.Prelude.{ℕ, Bool, false, not, ◌&&◌, List, [], ◌∷◌, ltb, eqb}
use Rattle.frame.specs.declared.response.ResponseKind.{ResponseKind}
use Rattle.frame.specs.declared.response.ResponseKind.TheVariants.{Empty, Single, Several, Data, Unassigned}
use Rattle.frame.specs.Response.{kind_number, kind_empty, kind_single}
use Rattle.frame.specs.Refusal.{response_forbidden, response_missing, response_too_few, response_too_many, Rule, first_broken}

-- "kind 3 needs two bytes": the reader counts its check byte.
abbrev pub data_sent : ℕ
data_sent = 2

-- "kind 3 needs one byte": the writer adds its check byte.
abbrev pub data_given : ℕ
data_given = 1

-- The least that a kind needs, `ofData` being what kind 3 needs. A type without a kind is refused before it is counted.
abbrev pub bytes_needed : ResponseKind → ℕ → ℕ
bytes_needed Empty ofData = 0
bytes_needed Single ofData = 1
bytes_needed Several ofData = 1
bytes_needed Data ofData = ofData
bytes_needed Unassigned ofData = 0

-- The rules for a response of n bytes in their order: "bytes where K = 1 forbids them; nothing where K = 0 requires something; some
-- but too few; too many for kind 1." K = 1 is kind 0, by `k_decides`.
unfoldable pub count_rules : ResponseKind → ℕ → ℕ → List Rule
count_rules kind ofData n =
    record { number = response_forbidden; broken = eqb (kind_number kind) kind_empty && ltb 0 n }
    ∷ record { number = response_missing; broken = ltb 0 (bytes_needed kind ofData) && eqb n 0 }
    ∷ record { number = response_too_few; broken = ltb 0 n && ltb n (bytes_needed kind ofData) }
    ∷ record { number = response_too_many; broken = eqb (kind_number kind) kind_single && ltb 1 n }
    ∷ []

unfoldable pub count_refusal : ResponseKind → ℕ → ℕ → ℕ
count_refusal kind ofData n = first_broken (count_rules kind ofData n)

-- The rule that the four replace, over a count without check byte: kind 0 has none, kind 1 exactly one, kinds 2 and 3 one or more.
abbrev pub wrong_count : ResponseKind → ℕ → Bool
wrong_count Empty n = not (eqb n 0)
wrong_count Single n = not (eqb n 1)
wrong_count Several n = eqb n 0
wrong_count Data n = eqb n 0
wrong_count Unassigned n = false
