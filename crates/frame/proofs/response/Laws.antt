-- Laws of the response: what its kind asks for, and as it is sent.
use mathlib.Core.Path.{◌≡◌, refl, ap}
use mathlib.Core.Bool.{true, false, cond, not, ◌&&◌, true≢false}
use mathlib.Core.List.{List}
use Prim.Native.Nat.{ℕ, ◌+◌, ◌-◌, ◌≤◌}
use native.Mathlib.Omega.{arith}
use borrow.Author.Tests.{eq-eqb, ne_eqb, eqb-true, eqb-false, not-false}
use lib.ListN.{length, take}
use lib.Seq.{take-length}
use Rattle.frame.specs.declared.response.ResponseKind.{ResponseKind}
use Rattle.frame.specs.declared.response.ResponseKind.TheVariants.{Empty, Single, Several, Data, Unassigned}
use Rattle.frame.specs.CheckByte.{check_byte, sealed, is_sealed}
use Rattle.frame.specs.Response.{kind_number, is_unassigned, is_checked, sent, response_size, ResponseObeys, kind_data}
use Rattle.frame.specs.Count.{wrong_count}
use Rattle.frame.proofs.bytes.Laws.{cases}
use Rattle.frame.proofs.seal.Laws.{length_sealed, sealed_is, sealed_again, taken_sealed}

-- Rule 4, the count and rule 6 are kept exactly when the response is what its kind asks for.
pub record ResponseKept (kind : ResponseKind) (response : List ℕ) : Type 0 where
  pub assigned : is_unassigned kind ≡ false
  pub count : wrong_count kind (response_size kind (length response)) ≡ false
  pub check : (is_checked kind && not (is_sealed response)) ≡ false

pub response_obeys : (kind : ResponseKind) (response : List ℕ) → ResponseKept kind response → ResponseObeys kind response
unfolding response_size
response_obeys Empty r k = eqb-true (length r) 0 (not-false _ k.count)
response_obeys Single r k = eqb-true (length r) 1 (not-false _ k.count)
response_obeys Several r k = omega (arith, eqb-false (length r) 0 k.count)
response_obeys Data r k = (omega (arith, eqb-false (length r - 1) 0 k.count), not-false _ k.check)
response_obeys Unassigned r k = absurd (true≢false k.assigned)

pub response_kept : (kind : ResponseKind) (response : List ℕ) → ResponseObeys kind response → ResponseKept kind response
unfolding response_size
response_kept Empty r o = record { assigned = refl; count = ap not (eq-eqb (length r) 0 o); check = refl }
response_kept Single r o = record { assigned = refl; count = ap not (eq-eqb (length r) 1 o); check = refl }
response_kept Several r o = record { assigned = refl; count = ne_eqb (length r) 0 (λ e. omega arith); check = refl }
response_kept Data r o =
    record { assigned = refl; count = ne_eqb (length r - 1) 0 (λ e. omega (arith, o.0)); check = ap not o.1 }
response_kept Unassigned r o = absurd o

pub kind_le : (kind : ResponseKind) → is_unassigned kind ≡ false → kind_number kind ≤ kind_data
kind_le Empty e = omega arith
kind_le Single e = omega arith
kind_le Several e = omega arith
kind_le Data e = omega arith
kind_le Unassigned e = absurd (true≢false e)

pub response_size_le : (kind : ResponseKind) (n : ℕ) → response_size kind n ≤ n
unfolding response_size
response_size_le Empty n = omega arith
response_size_le Single n = omega arith
response_size_le Several n = omega arith
response_size_le Data n = omega arith
response_size_le Unassigned n = omega arith

-- A response as it is sent.
module _ (kind : ResponseKind) (a : List ℕ) where
  pub sent_checked : is_checked kind ≡ true → sent kind a ≡ sealed a
  unfolding sent
  sent_checked e = rw e

  pub sent_plain : is_checked kind ≡ false → sent kind a ≡ a
  unfolding sent
  sent_plain e = rw e

  pub length_sent : length (sent kind a) ≡ cond (is_checked kind) (length a + 1) (length a)
  length_sent =
      cases (is_checked kind) (λ e. rw (e, sent_checked e) (length_sealed check_byte a)) (λ e. rw (e, sent_plain e))

  pub sent_longer : length a ≤ length (sent kind a)
  sent_longer =
      cases (is_checked kind) (λ e. rw (sent_checked e) (omega (arith, length_sealed check_byte a))) (λ e. rw (sent_plain e) (omega arith))

  -- its bytes without check byte are found again
  pub sent_size : response_size kind (length (sent kind a)) ≡ length a
  unfolding response_size
  sent_size = cases (is_checked kind) (λ e. rw (e, length_sent, e) (omega arith)) (λ e. rw (e, length_sent, e))

  pub sent_found : take (response_size kind (length (sent kind a))) (sent kind a) ≡ a
  sent_found =
      cases (is_checked kind) (λ e. rw (sent_size, sent_checked e) (taken_sealed check_byte a)) (λ e. rw (sent_size, sent_plain e) (take-length a))

  pub sent_sealed : (is_checked kind && not (is_sealed (sent kind a))) ≡ false
  sent_sealed = cases (is_checked kind) (λ e. rw (e, sent_checked e, sealed_is check_byte a)) (λ e. rw e)

-- A response that its kind asks for is what it is without check byte, sent again.
pub response_again :
    (kind : ResponseKind) (response : List ℕ)
    → ResponseObeys kind response
    → sent kind (take (response_size kind (length response)) response) ≡ response
unfolding sent response_size
response_again Empty r o = take-length r
response_again Single r o = take-length r
response_again Several r o = take-length r
response_again Data r o = sealed_again check_byte r o.1
response_again Unassigned r o = absurd o
