-- The parts of a frame of J1850 that obeys the rules make that frame again.
use mathlib.Core.Path.{◌≡◌, sym, ap, ◌∙◌}
use mathlib.Core.List.{List, ◌++◌}
use Prim.Native.Nat.{ℕ, ◌+◌, ◌-◌, ◌≤◌}
use native.Mathlib.Omega.{arith}
use lib.ListN.{length, take, drop, get_or}
use lib.Seq.{length-take-le, get_or-take}
use Rattle.frame.specs.CheckByte.{check_byte, sealed}
use Rattle.frame.specs.Response.{is_unassigned, sent, response_size}
use Rattle.frame.specs.Count.{wrong_count}
use Rattle.frame.specs.Header.{header_size, kind_asked}
use Rattle.frame.specs.Refusal.{no_refusal}
use Rattle.frame.specs.Reader.{parts_of, FrameObeys}
use Rattle.frame.specs.Frame.{frame_size, parts_at}
use Rattle.frame.specs.Writer.{frame_of, write_refusal}
use Rattle.frame.proofs.response.Laws.{response_kept, response_again, response_size_le}
use Rattle.frame.proofs.header.Laws.{header_range, same_size, same_kind}
use Rattle.frame.proofs.writer.Laws.{Writes, write_unrefused}
use Rattle.frame.proofs.frame.Laws.{run_again}

module _ (first response : List ℕ) (o : FrameObeys first response) where
  header : List ℕ
  header = take (header_size first) first

  body : List ℕ
  body = take (length first - (header_size first + 1)) (drop (header_size first) first)

  unchecked : List ℕ
  unchecked = take (response_size (kind_asked first) (length response)) response

  header_byte : get_or header 0 0 ≡ get_or first 0 0
  unfolding header
  header_byte = get_or-take (header_size first) first 0 0 (omega (arith, header_range first))

  header_length : length header ≡ header_size header
  unfolding header
  header_length = length-take-le (header_size first) first (omega (arith, o.long)) ∙ sym (same_size header first header_byte)

  header_kind : kind_asked header ≡ kind_asked first
  header_kind = same_kind header first header_byte

  first_again : sealed (header ++ body) ≡ first
  unfolding header body
  first_again = run_again check_byte first (header_size first) o.long o.check

  sent_again : sent (kind_asked header) unchecked ≡ response
  unfolding unchecked
  sent_again = ap (λ k. sent k unchecked) header_kind ∙ response_again (kind_asked first) response o.by_kind

  frame_again : frame_of header body unchecked ≡ record { first = first; response = response }
  unfolding frame_of
  frame_again = λ i. record { first = first_again i; response = sent_again i }

  counted : wrong_count (kind_asked header) (length unchecked) ≡ wrong_count (kind_asked first) (response_size (kind_asked first) (length response))
  unfolding unchecked
  counted =
      let n = response_size (kind_asked first) (length response) in
      let size = length-take-le n response (response_size_le (kind_asked first) (length response)) in
      λ i. wrong_count (header_kind i) (size i)

  writes_again : (room : ℕ) → length first + length response ≤ room → Writes header body unchecked room
  writes_again room fits =
      let k = response_kept (kind_asked first) response o.by_kind in
      let total : frame_size (frame_of header body unchecked) ≡ length first + length response = ap frame_size frame_again in
      record {
        size = header_length;
        assigned = ap is_unassigned header_kind ∙ k.assigned;
        count = counted ∙ k.count;
        most = omega (arith, total, o.most);
        fits = omega (arith, total);
      }

  -- Its parts are written wherever they fit, and make the frame.
  pub again :
      (room : ℕ)
      → length first + length response ≤ room
      → (let p = parts_of first response in
      (write_refusal p.header p.body p.response room ≡ no_refusal)
      × (frame_of p.header p.body p.response ≡ record { first = first; response = response }))
  unfolding parts_of parts_at header body unchecked
  again room fits = (write_unrefused header body unchecked room (writes_again room fits), frame_again)
