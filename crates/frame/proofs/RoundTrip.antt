-- Demand 2 for frames: acceptance, the two round trips, and the agreement of reader and writer.
use mathlib.Core.Path.{◌≡◌, refl, ap, ◌∙◌}
use mathlib.Core.Logic.{◌↔◌}
use mathlib.Core.Bool.{false, cond, not}
use mathlib.Core.List.{List, [], ◌∷◌, ◌++◌}
use Prim.Native.Nat.{ℕ, ◌+◌, ◌≤◌, ◌<◌}
use native.Mathlib.Omega.{arith}
use borrow.Author.Tests.{le-ltb, lt-ltb, eq-eqb}
use lib.Dec.{ltb}
use lib.ListN.{length}
use Rattle.frame.specs.declared.response.ResponseKind.TheVariants.{Data}
use Rattle.frame.specs.CheckByte.{check_byte}
use Rattle.frame.specs.Response.{is_unassigned, is_checked, sent}
use Rattle.frame.specs.Count.{count_rules, data_sent, data_given}
use Rattle.frame.specs.Header.{header_size, kind_asked}
use Rattle.frame.specs.Frame.{Frame, frame_size, Parts, most_bytes}
use Rattle.frame.specs.Refusal.{accepted, first_broken, no_refusal}
use Rattle.frame.specs.Refusal.{too_long, too_short, check_wrong, type_unassigned, response_check_wrong, response_missing, response_too_few}
use Rattle.frame.specs.Reader.{read_rules_with, read_rules, read_refusal, parts_of, read_frame, FrameObeys}
use Rattle.frame.specs.Writer.{frame_of, write_rules_with, write_rules, write_refusal, write_frame}
use Rattle.frame.proofs.seal.Laws.{sealed_is}
use Rattle.frame.proofs.response.Laws.{length_sent}
use Rattle.frame.proofs.count.Laws.{data_given_lem}
use Rattle.frame.proofs.refusal.Laws.{accepted_exactly, there_and_back, broken, same_behind}
use Rattle.frame.proofs.reader.Laws.{obeys, read_unrefused}
use Rattle.frame.proofs.writer.Laws.{writes}
use Rattle.frame.proofs.frame.Written.{frame_parts, run_kind, run_long, run_counted, run_checked}
use Rattle.frame.proofs.frame.Again.{again}

-- "A frame is accepted exactly when document 01 says so": some parts are handed over exactly when the rules are obeyed.
pub frame_accepted_exactly : (first response : List ℕ) → ((p : Parts) × (read_frame first response ≡ accepted p)) ↔ FrameObeys first response
unfolding read_frame
frame_accepted_exactly first response =
    accepted_exactly (read_refusal first response) (parts_of first response) (obeys first response) (read_unrefused first response)

-- Header, data and response without check bytes; the header is as long as H says.
module _ (h d a : List ℕ) (size : length h ≡ header_size h) where
  -- The reader and the writer agree on every refusal that they share: rules 1 and 4 are broken for the frame exactly when they are
  -- broken for its parts, those of the count by the response as it is sent, and a written frame never breaks 2, 3 or 6.
  pub agree :
      read_rules (frame_of h d a).first (frame_of h d a).response
      ≡ record { number = too_long; broken = ltb most_bytes (frame_size (frame_of h d a)) }
      ∷ record { number = too_short; broken = false }
      ∷ record { number = check_wrong; broken = false }
      ∷ record { number = type_unassigned; broken = is_unassigned (kind_asked h) }
      ∷ (count_rules (kind_asked h) data_sent (length (sent (kind_asked h) a))
      ++ record { number = response_check_wrong; broken = false }
      ∷ [])
  unfolding read_rules read_rules_with frame_of
  agree =
      λ i.
      record { number = too_long; broken = ltb most_bytes (frame_size (frame_of h d a)) }
      ∷ record { number = too_short; broken = run_long h d a size i }
      ∷ record { number = check_wrong; broken = not (sealed_is check_byte (h ++ d) i) }
      ∷ record { number = type_unassigned; broken = is_unassigned (run_kind h d a size i) }
      ∷ (count_rules (run_kind h d a size i) data_sent (length (sent (kind_asked h) a))
      ++ record { number = response_check_wrong; broken = run_checked h d a size i }
      ∷ [])

  -- Within twelve bytes and the lent room the two refusals are the same number, if a kind 3 response has data.
  pub same_refusal :
      (room : ℕ)
      → frame_size (frame_of h d a) ≤ most_bytes
      → frame_size (frame_of h d a) ≤ room
      → (kind_asked h ≡ Data → 0 < length a)
      → read_refusal (frame_of h d a).first (frame_of h d a).response ≡ write_refusal h d a room
  unfolding read_refusal write_refusal write_rules write_rules_with first_broken
  same_refusal room most fits some =
      let n = frame_size (frame_of h d a) in
      ap first_broken agree
      ∙ rw (le-ltb most_bytes n most, le-ltb room n fits, eq-eqb (length h) (header_size h) size, run_counted h d a size some)
      (ap (cond (is_unassigned (kind_asked h)) type_unassigned) (same_behind (count_rules (kind_asked h) data_given (length a)) _ _ refl))

  -- A kind 3 response without data would be sent as its check byte alone: the writer gives 51, and the reader 52.
  pub lone_check_byte :
      (room : ℕ)
      → frame_size (frame_of h d a) ≤ most_bytes
      → kind_asked h ≡ Data
      → length a ≡ 0
      → (read_refusal (frame_of h d a).first (frame_of h d a).response ≡ response_too_few) × (write_refusal h d a room ≡ response_missing)
  unfolding read_refusal write_refusal write_rules write_rules_with first_broken count_rules
  lone_check_byte room most kind none =
      let one : length (sent (kind_asked h) a) ≡ 1 = length_sent (kind_asked h) a ∙ (λ i. cond (is_checked (kind i)) (none i + 1) (none i)) in (
        ap first_broken agree ∙ rw (le-ltb most_bytes (frame_size (frame_of h d a)) most, one, kind),
        rw (eq-eqb (length h) (header_size h) size, kind, none),
      )

  -- Over twelve bytes both refuse, the reader with 1.
  pub both_refuse :
      (room : ℕ)
      → most_bytes < frame_size (frame_of h d a)
      → (read_refusal (frame_of h d a).first (frame_of h d a).response ≡ too_long) × (write_refusal h d a room ≡ no_refusal → ⊥)
  unfolding read_refusal
  both_refuse room over = (
    ap first_broken agree ∙ broken _ _ (lt-ltb most_bytes (frame_size (frame_of h d a)) over),
    λ e. omega (arith, (writes h d a room e).most),
  )

-- "written frames read back to the same parts"
pub read_back :
    (h d a : List ℕ) (room : ℕ) (f : Frame)
    → write_frame h d a room ≡ accepted f
    → read_frame f.first f.response ≡ accepted (record { header = h; body = d; kind = kind_asked h; response = a })
unfolding write_frame read_frame
read_back h d a room f e =
    there_and_back (λ g. read_refusal g.first g.response) (λ g. parts_of g.first g.response)
    (write_refusal h d a room) (frame_of h d a) f _ e
    (λ z.
    let w = writes h d a room z in
    (same_refusal h d a w.size room w.most w.fits (data_given_lem (kind_asked h) (length a) w.count) ∙ z, frame_parts h d a w.size))

-- "accepted frames written again give the same bytes", wherever these fit the lent room.
pub written_again :
    (first response : List ℕ) (p : Parts) (room : ℕ)
    → read_frame first response ≡ accepted p
    → length first + length response ≤ room
    → write_frame p.header p.body p.response room ≡ accepted (record { first = first; response = response })
unfolding read_frame write_frame
written_again first response p room e fits =
    there_and_back (λ q. write_refusal q.header q.body q.response room) (λ q. frame_of q.header q.body q.response)
    (read_refusal first response) (parts_of first response) p _ e
    (λ z. again first response (obeys first response z) room fits)
