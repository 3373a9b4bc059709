-- What the reader finds in a frame that was made of parts.
use mathlib.Core.Path.{◌≡◌, sym, ap, ◌∙◌}
use mathlib.Core.Bool.{false, not, ◌&&◌}
use mathlib.Core.List.{List}
use native.Mathlib.Omega.{arith}
use borrow.Author.Tests.{le-ltb}
use Prim.Native.Nat.{ℕ, ◌+◌, ◌<◌}
use lib.Dec.{ltb}
use lib.ListN.{length, take, get_or}
use Rattle.frame.specs.declared.response.ResponseKind.TheVariants.{Data}
use Rattle.frame.specs.CheckByte.{check_byte, is_sealed}
use Rattle.frame.specs.Response.{is_checked, sent, response_size}
use Rattle.frame.specs.Count.{count_rules, data_sent, data_given}
use Rattle.frame.specs.Header.{header_size, kind_asked}
use Rattle.frame.specs.Reader.{parts_of}
use Rattle.frame.specs.Writer.{frame_of}
use Rattle.frame.proofs.response.Laws.{length_sent, sent_found, sent_sealed}
use Rattle.frame.proofs.count.Laws.{counted_alike}
use Rattle.frame.proofs.header.Laws.{header_range, same_size, same_kind}
use Rattle.frame.proofs.frame.Laws.{run, run_length, run_byte, parts_found}

-- Header, data and response without check bytes; the header is as long as H says.
module _ (h d a : List ℕ) (size : length h ≡ header_size h) where
  abbrev first : List ℕ
  first = run check_byte h d

  first_byte : get_or first 0 0 ≡ get_or h 0 0
  first_byte = run_byte check_byte h d (omega (arith, size, header_range h))

  run_size : header_size first ≡ length h
  run_size = same_size first h first_byte ∙ sym size

  pub run_kind : kind_asked first ≡ kind_asked h
  run_kind = same_kind first h first_byte

  run_response :
      take (response_size (kind_asked first) (length (sent (kind_asked h) a))) (sent (kind_asked h) a) ≡ a
  run_response =
      let behind : List ℕ = sent (kind_asked h) a in
      ap (λ k. take (response_size k (length behind)) behind) run_kind ∙ sent_found (kind_asked h) a

  -- They are the parts that the reader finds.
  pub frame_parts :
      parts_of (frame_of h d a).first (frame_of h d a).response
      ≡ record { header = h; body = d; kind = kind_asked h; response = a }
  unfolding parts_of frame_of
  frame_parts = parts_found check_byte h d (header_size first) run_size run_kind run_response

  -- Rules 2 and 6 over the frame.
  pub run_long : ltb (length first) (header_size first + 1) ≡ false
  run_long = le-ltb (length first) (header_size first + 1) (omega (arith, run_length check_byte h d, run_size))

  pub run_checked : (is_checked (kind_asked first) && not (is_sealed (sent (kind_asked h) a))) ≡ false
  run_checked = ap (λ k. is_checked k && not (is_sealed (sent (kind_asked h) a))) run_kind ∙ sent_sealed (kind_asked h) a

  -- The reader counts the response as it is sent, the writer as it is given.
  pub run_counted :
      (kind_asked h ≡ Data → 0 < length a)
      → count_rules (kind_asked h) data_sent (length (sent (kind_asked h) a)) ≡ count_rules (kind_asked h) data_given (length a)
  run_counted some =
      ap (count_rules (kind_asked h) data_sent) (length_sent (kind_asked h) a) ∙ counted_alike (kind_asked h) (length a) some
