-- Demand 2 for messages of ISO 9141-2: acceptance, the two round trips, and the agreement of reader and writer. The laws bear the
-- names of J1850's in RoundTrip.
use mathlib.Core.Path.{◌≡◌, ap, ◌∙◌}
use mathlib.Core.Logic.{◌↔◌}
use mathlib.Core.Bool.{false, not}
use mathlib.Core.List.{List, [], ◌∷◌, ◌++◌}
use Prim.Native.Nat.{ℕ, ◌+◌, ◌≤◌, ◌<◌}
use native.Mathlib.Omega.{arith}
use borrow.Author.Tests.{le-ltb, lt-ltb, eq-eqb}
use lib.Dec.{ltb}
use lib.ListN.{length}
use Rattle.frame.specs.declared.response.ResponseKind.TheVariants.{Empty}
use Rattle.frame.specs.Header.{three_byte_form}
use Rattle.frame.specs.Frame.{Frame, frame_size, Parts, most_bytes}
use Rattle.frame.specs.Refusal.{accepted, first_broken, no_refusal, too_long, too_short, check_wrong, first_byte_wrong}
use Rattle.frame.specs.Iso.{sum_byte, wrong_first, iso_read_rules, iso_read_refusal, iso_parts, read_iso, IsoObeys}
use Rattle.frame.specs.Iso.{iso_frame, iso_write_rules, iso_write_refusal, write_iso}
use Rattle.frame.proofs.seal.Laws.{sealed_is}
use Rattle.frame.proofs.refusal.Laws.{accepted_exactly, there_and_back, broken}
use Rattle.frame.proofs.frame.Laws.{run, run_length, run_byte}
use Rattle.frame.proofs.iso.Laws.{obeys, read_unrefused, same_first, writes, message_parts, again}

-- "A frame is accepted exactly when document 01 says so": some parts are handed over exactly when the rules are obeyed.
pub frame_accepted_exactly : (s : List ℕ) → ((p : Parts) × (read_iso s ≡ accepted p)) ↔ IsoObeys s
unfolding read_iso
frame_accepted_exactly s = accepted_exactly (iso_read_refusal s) (iso_parts s) (obeys s) (read_unrefused s)

-- Header and data without check byte; the header has three bytes.
module _ (h d : List ℕ) (size : length h ≡ three_byte_form) where
  -- The reader and the writer agree on every refusal that they share: rules 1 and 9 are broken for the message exactly when they
  -- are broken for its parts, and a written message never breaks 2 or 3.
  pub agree :
      iso_read_rules (iso_frame h d).first
      ≡ record { number = too_long; broken = ltb most_bytes (frame_size (iso_frame h d)) }
      ∷ record { number = too_short; broken = false }
      ∷ record { number = check_wrong; broken = false }
      ∷ record { number = first_byte_wrong; broken = wrong_first h }
      ∷ []
  unfolding iso_read_rules iso_frame
  agree =
      let first = run sum_byte h d in
      let total : length first ≡ frame_size (iso_frame h d) = omega arith in
      let long = le-ltb (length first) (three_byte_form + 1) (omega (arith, run_length sum_byte h d, size)) in
      let byte = same_first first h (run_byte sum_byte h d (omega (arith, size))) in
      λ i.
      record { number = too_long; broken = ltb most_bytes (total i) }
      ∷ record { number = too_short; broken = long i }
      ∷ record { number = check_wrong; broken = not (sealed_is sum_byte (h ++ d) i) }
      ∷ record { number = first_byte_wrong; broken = byte i }
      ∷ []

  -- Within twelve bytes and the lent room the two refusals are the same number.
  pub same_refusal :
      (room : ℕ)
      → frame_size (iso_frame h d) ≤ most_bytes
      → frame_size (iso_frame h d) ≤ room
      → iso_read_refusal (iso_frame h d).first ≡ iso_write_refusal h d room
  unfolding iso_read_refusal iso_write_refusal iso_write_rules first_broken
  same_refusal room most fits =
      let n = frame_size (iso_frame h d) in
      ap first_broken agree ∙ rw (le-ltb most_bytes n most, le-ltb room n fits, eq-eqb (length h) three_byte_form size)

  -- Over twelve bytes both refuse, the reader with 1.
  pub both_refuse :
      (room : ℕ)
      → most_bytes < frame_size (iso_frame h d)
      → (iso_read_refusal (iso_frame h d).first ≡ too_long) × (iso_write_refusal h d room ≡ no_refusal → ⊥)
  unfolding iso_read_refusal
  both_refuse room over = (
    ap first_broken agree ∙ broken _ _ (lt-ltb most_bytes (frame_size (iso_frame h d)) over),
    λ e. omega (arith, (writes h d room e).most),
  )

-- "written frames read back to the same parts"
pub read_back :
    (h d : List ℕ) (room : ℕ) (f : Frame)
    → write_iso h d room ≡ accepted f
    → read_iso f.first ≡ accepted (record { header = h; body = d; kind = Empty; response = [] })
unfolding write_iso read_iso
read_back h d room f e =
    there_and_back (λ g. iso_read_refusal g.first) (λ g. iso_parts g.first) (iso_write_refusal h d room) (iso_frame h d) f _ e
    (λ z.
    let w = writes h d room z in
    (same_refusal h d w.size room w.most w.fits ∙ z, message_parts h d w.size))

-- "accepted frames written again give the same bytes", wherever these fit the lent room.
pub written_again :
    (s : List ℕ) (p : Parts) (room : ℕ)
    → read_iso s ≡ accepted p
    → length s ≤ room
    → write_iso p.header p.body room ≡ accepted (record { first = s; response = [] })
unfolding read_iso write_iso
written_again s p room e fits =
    there_and_back (λ q. iso_write_refusal q.header q.body room) (λ q. iso_frame q.header q.body)
    (iso_read_refusal s) (iso_parts s) p _ e (λ z. again s room (obeys s z) fits)
