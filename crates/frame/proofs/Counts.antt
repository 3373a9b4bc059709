-- Refusals 50 to 53 and the 5 that they replace: document 02, K2.
use mathlib.Core.Path.{◌≡◌, refl, sym, ◌∙◌}
use mathlib.Core.Bool.{true≢false}
use mathlib.Core.List.{List, [], ◌∷◌, map, Permᴰ}
use Prim.Native.Nat.{ℕ, ◌≤◌}
use lib.Dec.{lit<}
use lib.ListN.{length}
use Rattle.frame.specs.declared.response.ResponseKind.{ResponseKind}
use Rattle.frame.specs.declared.response.ResponseKind.TheVariants.{Empty, Single, Several, Data}
use Rattle.frame.specs.Header.{kind_asked}
use Rattle.frame.specs.Response.{response_size}
use Rattle.frame.specs.Count.{bytes_needed, count_rules, count_refusal, data_sent, data_given}
use Rattle.frame.specs.Refusal.{Rule, first_broken, times_broken, response_too_few}
use Rattle.frame.specs.Reader.{read_rules_with, read_rules, read_refusal}
use Rattle.frame.specs.Writer.{write_rules_with, write_rules, write_refusal}
use Rattle.frame.specs.Former.{former_read_refusal, former_write_refusal, Split}
use Rattle.frame.proofs.refusal.Laws.{given_by, any_order}
use Rattle.frame.proofs.count.Laws.{sent_right, given_right, few, one_at_most, one_given}
use Rattle.frame.proofs.count.Around.{in_reader, in_writer, split_other, count_split}

-- "one of 50 to 53 is given exactly where 5 was", and "Frame acceptance stays the same": every other number, that of no refusal
-- included, is as it was.
pub read_split : (first response : List ℕ) → Split (read_refusal first response) (former_read_refusal first response)
unfolding read_refusal read_rules former_read_refusal
read_split first response =
    let kind = kind_asked first in
    let n = length response in
    in_reader Split split_other _ _ (count_split kind data_sent n (response_size kind n) (sent_right kind n)) first response

-- The same of the writer: "one of 50 to 53 is given exactly where 5 was".
pub write_split :
    (header body response : List ℕ) (room : ℕ)
    → Split (write_refusal header body response room) (former_write_refusal header body response room)
unfolding write_refusal write_rules former_write_refusal
write_split header body response room =
    let kind = kind_asked header in
    let n = length response in
    in_writer Split split_other _ _ (count_split kind data_given n n (given_right kind n)) header body response room

-- "the writer never gives 52"
pub writer_never_too_few : (header body response : List ℕ) (room : ℕ) → write_refusal header body response room ≡ response_too_few → ⊥
unfolding write_refusal write_rules write_rules_with count_rules
writer_never_too_few h d a room e =
    let given = given_by response_too_few (write_rules h d a room) (lit< tt) e in
    true≢false (sym given ∙ rw (few (length a) (bytes_needed (kind_asked h) data_given) (one_given (kind_asked h))))

-- "of the four at most one applies to a frame"
pub at_most_one : (first response : List ℕ) → times_broken (count_rules (kind_asked first) data_sent (length response)) ≤ 1
at_most_one first response = one_at_most (kind_asked first) data_sent (length response)

-- "so their order decides nothing": in any order at their place the refusal is the same.
pub read_any_order :
    (first response : List ℕ) (rules : List Rule)
    → Permᴰ (count_rules (kind_asked first) data_sent (length response)) rules
    → read_refusal first response ≡ first_broken (read_rules_with rules first response)
unfolding read_refusal read_rules
read_any_order first response rules d =
    let once = one_at_most (kind_asked first) data_sent (length response) in
    in_reader (◌≡◌ {A = ℕ}) (λ n o. refl) _ rules (λ others e. any_order others d once) first response

-- The same of the writer: "their order decides nothing".
pub write_any_order :
    (header body response : List ℕ) (room : ℕ) (rules : List Rule)
    → Permᴰ (count_rules (kind_asked header) data_given (length response)) rules
    → write_refusal header body response room ≡ first_broken (write_rules_with rules header body response room)
unfolding write_refusal write_rules
write_any_order header body response room rules d =
    let once = one_at_most (kind_asked header) data_given (length response) in
    in_writer (◌≡◌ {A = ℕ}) (λ n o. refl) _ rules (λ others e. any_order others d once) header body response room

-- The refusals of no, one and two bytes, by kind: as the reader counts them, and kind 3 as the writer does.
pub count_cases :
    (let refusals : ResponseKind → ℕ → List ℕ = λ kind ofData. map (count_refusal kind ofData) (0 ∷ 1 ∷ 2 ∷ []) in
    (refusals Empty data_sent ≡ 0 ∷ 50 ∷ 50 ∷ [])
    × (refusals Single data_sent ≡ 51 ∷ 0 ∷ 53 ∷ [])
    × (refusals Several data_sent ≡ 51 ∷ 0 ∷ 0 ∷ [])
    × (refusals Data data_sent ≡ 51 ∷ 52 ∷ 0 ∷ [])
    × (refusals Data data_given ≡ 51 ∷ 0 ∷ 0 ∷ []))
unfolding count_refusal count_rules first_broken
count_cases = (refl, refl, refl, refl, refl)
