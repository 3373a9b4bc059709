-- Laws of writing a frame of J1850: its size, and the writer's rules.
use mathlib.Core.Path.{◌≡◌, ap, ◌∙◌}
use mathlib.Core.Bool.{true, false, cond, not}
use mathlib.Core.List.{List, ◌++◌}
use Prim.Native.Nat.{ℕ, ◌+◌, ◌≤◌, ◌<◌}
use native.Mathlib.Omega.{arith}
use borrow.Author.Tests.{lt-ltb, le-ltb, ltb-false, eq-eqb, eqb-true, not-false}
use lib.Dec.{ltb, lit<}
use lib.ListN.{length, length-append}
use Rattle.frame.specs.CheckByte.{check_byte}
use Rattle.frame.specs.Response.{is_checked, is_unassigned, sent}
use Rattle.frame.specs.Count.{wrong_count, data_given}
use Rattle.frame.specs.Header.{header_size, kind_asked}
use Rattle.frame.specs.Frame.{Frame, frame_size, most_bytes}
use Rattle.frame.specs.Refusal.{accepted, no_refusal}
use Rattle.frame.specs.Writer.{frame_of, write_rules_with, write_rules, write_refusal, write_frame}
use Rattle.frame.proofs.bytes.Laws.{cases}
use Rattle.frame.proofs.seal.Laws.{length_sealed}
use Rattle.frame.proofs.response.Laws.{length_sent}
use Rattle.frame.proofs.count.Laws.{count_past, none_counted, given_right}
use Rattle.frame.proofs.refusal.Laws.{kept, last_kept, none_broken, unrefused_is, accepted_has}

-- The writer's rules, said without an order.
pub record Writes (header body response : List ℕ) (room : ℕ) : Type 0 where
  pub size : length header ≡ header_size header
  pub assigned : is_unassigned (kind_asked header) ≡ false
  pub count : wrong_count (kind_asked header) (length response) ≡ false
  pub most : frame_size (frame_of header body response) ≤ most_bytes
  pub fits : frame_size (frame_of header body response) ≤ room

-- Header, data and response, each without check byte.
module _ (h d a : List ℕ) where
  -- The size of a frame: its parts, the check byte, and one byte more for a kind 3 response.
  pub frame_size_lem : frame_size (frame_of h d a) ≡ length h + length d + 1 + length (sent (kind_asked h) a)
  unfolding frame_of
  frame_size_lem = omega (arith, length_sealed check_byte (h ++ d), length-append h d)

  pub size_checked : is_checked (kind_asked h) ≡ true → frame_size (frame_of h d a) ≡ length h + length d + 1 + length a + 1
  size_checked e = omega (arith, frame_size_lem, rw e at (length_sent (kind_asked h) a))

  pub size_plain : is_checked (kind_asked h) ≡ false → frame_size (frame_of h d a) ≡ length h + length d + 1 + length a
  size_plain e = omega (arith, frame_size_lem, rw e at (length_sent (kind_asked h) a))

  pub frame_total : frame_size (frame_of h d a) ≡ length h + length d + length a + cond (is_checked (kind_asked h)) 2 1
  frame_total =
      cases (is_checked (kind_asked h)) (λ e. rw e (omega (arith, size_checked e))) (λ e. rw e (omega (arith, size_plain e)))

  frame_longer : length d + length a ≤ frame_size (frame_of h d a)
  frame_longer = cases (is_checked (kind_asked h)) (λ e. omega (arith, size_checked e)) (λ e. omega (arith, size_plain e))

  pub over_most : most_bytes < length d + length a → ltb most_bytes (frame_size (frame_of h d a)) ≡ true
  over_most l = lt-ltb most_bytes (frame_size (frame_of h d a)) (omega (arith, frame_longer))

  module _ (room : ℕ) where
    -- No refusal: every rule is kept.
    pub writes : write_refusal h d a room ≡ no_refusal → Writes h d a room
    unfolding write_refusal write_rules write_rules_with
    writes e =
        let seven = none_broken _ _ e (lit< tt) in
        let four = none_broken _ _ seven.1 (lit< tt) in
        let counted = none_counted (kind_asked h) data_given (length a) _ four.1 in
        let one = none_broken _ _ counted.1 (lit< tt) in
        let eight = none_broken _ _ one.1 (lit< tt) in
        record {
          size = eqb-true (length h) (header_size h) (not-false _ seven.0);
          assigned = four.0;
          count = (given_right (kind_asked h) (length a)).0 counted.0;
          most = ltb-false most_bytes (frame_size (frame_of h d a)) one.0;
          fits = ltb-false room (frame_size (frame_of h d a)) eight.0;
        }

    -- Every rule is kept: no refusal.
    pub write_unrefused : Writes h d a room → write_refusal h d a room ≡ no_refusal
    unfolding write_refusal write_rules write_rules_with
    write_unrefused w =
        kept _ _ (ap not (eq-eqb (length h) (header_size h) w.size))
        ∙ kept _ _ w.assigned
        ∙ count_past (kind_asked h) data_given (length a) _ ((given_right (kind_asked h) (length a)).1 w.count)
        ∙ kept _ _ (le-ltb most_bytes (frame_size (frame_of h d a)) w.most)
        ∙ last_kept _ (le-ltb room (frame_size (frame_of h d a)) w.fits)

    pub write_accepts : write_refusal h d a room ≡ no_refusal → write_frame h d a room ≡ accepted (frame_of h d a)
    unfolding write_frame
    write_accepts e = unrefused_is (write_refusal h d a room) (frame_of h d a) e

    -- What is written lies within twelve bytes and within the lent room.
    pub written_within : (f : Frame) → write_frame h d a room ≡ accepted f → (frame_size f ≤ most_bytes) × (frame_size f ≤ room)
    unfolding write_frame
    written_within f e =
        accepted_has (λ g. (frame_size g ≤ most_bytes) × (frame_size g ≤ room)) (write_refusal h d a room) (frame_of h d a) f e
        (λ z. ((writes z).most, (writes z).fits))
