-- One reading on either bus: header and data are read the same from a message of ISO 9141-2 and from a frame of J1850 without
-- response, so that everything above the frame is the same.
use mathlib.Core.Path.{◌≡◌, refl, sym, ap, ◌∙◌}
use mathlib.Core.Bool.{false}
use mathlib.Core.List.{List, []}
use Prim.Native.Nat.{ℕ}
use native.Mathlib.Omega.{arith}
use lib.ListN.{length}
use Rattle.frame.specs.declared.response.ResponseKind.{ResponseKind}
use Rattle.frame.specs.declared.response.ResponseKind.TheVariants.{Empty, Single, Several, Data, Unassigned}
use Rattle.frame.specs.Response.{kind_number, sent, kind_empty}
use Rattle.frame.specs.Count.{count_rules}
use Rattle.frame.specs.Header.{header_size, kind_asked, three_byte_form}
use Rattle.frame.specs.Frame.{frame_size}
use Rattle.frame.specs.Refusal.{outcome, first_broken}
use Rattle.frame.specs.Reader.{read_refusal, parts_of, read_frame}
use Rattle.frame.specs.Writer.{frame_of}
use Rattle.frame.specs.Iso.{wrong_first, iso_read_refusal, iso_parts, read_iso, iso_frame}
use Rattle.frame.proofs.header.Laws.{three_bytes}
use Rattle.frame.proofs.response.Laws.{sent_plain}
use Rattle.frame.proofs.writer.Laws as writer
use Rattle.frame.proofs.iso.Laws.{first_right}
use Rattle.frame.proofs.iso.Laws as iso
use Rattle.frame.proofs.frame.Written.{frame_parts}
use Rattle.frame.proofs.Sentences.{k_decides}
use Rattle.frame.proofs.RoundTrip.{agree}
use Rattle.frame.proofs.IsoRoundTrip as iso-trip

empty : (k : ResponseKind) → kind_number k ≡ kind_empty → k ≡ Empty
empty Empty e = refl
empty Single e = absurd (omega arith)
empty Several e = absurd (omega arith)
empty Data e = absurd (omega arith)
empty Unassigned e = absurd (omega arith)

-- A header of three bytes whose first byte both buses take.
module _ (h d : List ℕ) (size : length h ≡ three_byte_form) (right : wrong_first h ≡ false) where
  kind : kind_asked h ≡ Empty
  kind = empty (kind_asked h) ((k_decides h).0 (first_right h right).1)

  sizes_agree : length h ≡ header_size h
  sizes_agree = size ∙ sym (three_bytes h (first_right h right).0)

  total : frame_size (frame_of h d []) ≡ frame_size (iso_frame h d)
  total =
      let none : length (sent (kind_asked h) []) ≡ 0 = ap length (ap (λ k. sent k []) kind ∙ sent_plain Empty [] refl) in
      omega (arith, writer.frame_size_lem h d [], none, iso.frame_size_lem h d)

  refusal : read_refusal (frame_of h d []).first (frame_of h d []).response ≡ iso_read_refusal (iso_frame h d).first
  unfolding read_refusal iso_read_refusal first_broken count_rules sent
  refusal =
      ap first_broken (agree h d [] sizes_agree)
      ∙ (rw (kind, total, right) refl)
      ∙ sym (ap first_broken (iso-trip.agree h d size))

  parts : parts_of (frame_of h d []).first (frame_of h d []).response ≡ iso_parts (iso_frame h d).first
  parts =
      frame_parts h d [] sizes_agree
      ∙ ap (λ k. record { header = h; body = d; kind = k; response = [] }) kind
      ∙ sym (iso.message_parts h d size)

  -- Refused alike, or accepted with the same parts.
  pub same_reading : read_iso (iso_frame h d).first ≡ read_frame (frame_of h d []).first (frame_of h d []).response
  unfolding read_iso read_frame
  same_reading = λ i. outcome (sym refusal i) (sym parts i)
