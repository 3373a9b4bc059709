-- Laws of reading a frame of J1850.
use mathlib.Core.Path.{◌≡◌, sym, ap, ◌∙◌}
use mathlib.Core.Bool.{not}
use mathlib.Core.List.{List}
use Prim.Native.Nat.{ℕ, ◌+◌, ◌-◌, ◌≤◌}
use native.Mathlib.Omega.{arith}
use borrow.Author.Tests.{le-ltb, ltb-false, not-false}
use lib.Dec.{lit<}
use lib.ListN.{length, take}
use lib.Seq.{length-take-le}
use Rattle.frame.specs.CheckByte.{is_sealed}
use Rattle.frame.specs.Response.{kind_number, response_size}
use Rattle.frame.specs.Count.{data_sent}
use Rattle.frame.specs.Header.{header_size, kind_asked}
use Rattle.frame.specs.Frame.{Parts, most_bytes, sizes, Handed}
use Rattle.frame.specs.Refusal.{accepted, no_refusal}
use Rattle.frame.specs.Reader.{read_rules_with, read_rules, read_refusal, parts_of, read_frame, FrameObeys}
use Rattle.frame.proofs.response.Laws.{response_obeys, response_kept, response_size_le, kind_le}
use Rattle.frame.proofs.count.Laws.{count_past, none_counted, sent_right}
use Rattle.frame.proofs.refusal.Laws.{kept, last_kept, none_broken, unrefused_is, accepted_has}
use Rattle.frame.proofs.frame.Laws.{sizes_at, handed_at}

module _ (first response : List ℕ) where
  -- No refusal: every rule is obeyed.
  pub obeys : read_refusal first response ≡ no_refusal → FrameObeys first response
  unfolding read_refusal read_rules read_rules_with
  obeys e =
      let kind = kind_asked first in
      let one = none_broken _ _ e (lit< tt) in
      let two = none_broken _ _ one.1 (lit< tt) in
      let three = none_broken _ _ two.1 (lit< tt) in
      let four = none_broken _ _ three.1 (lit< tt) in
      let counted = none_counted kind data_sent (length response) _ four.1 in
      let six = none_broken _ _ counted.1 (lit< tt) in
      let count = (sent_right kind (length response)).0 counted.0 in
      record {
        most = ltb-false most_bytes (length first + length response) one.0;
        long = ltb-false (length first) (header_size first + 1) two.0;
        check = not-false (is_sealed first) three.0;
        by_kind = response_obeys kind response (record { assigned = four.0; count = count; check = six.0 });
      }

  -- Every rule is obeyed: no refusal.
  pub read_unrefused : FrameObeys first response → read_refusal first response ≡ no_refusal
  unfolding read_refusal read_rules read_rules_with
  read_unrefused o =
      let kind = kind_asked first in
      let k = response_kept kind response o.by_kind in
      kept _ _ (le-ltb most_bytes (length first + length response) o.most)
      ∙ kept _ _ (le-ltb (length first) (header_size first + 1) o.long)
      ∙ kept _ _ (ap not o.check)
      ∙ kept _ _ k.assigned
      ∙ count_past kind data_sent (length response) _ ((sent_right kind (length response)).1 k.count)
      ∙ last_kept _ k.check

  pub read_accepts : read_refusal first response ≡ no_refusal → read_frame first response ≡ accepted (parts_of first response)
  unfolding read_frame
  read_accepts e = unrefused_is (read_refusal first response) (parts_of first response) e

  cut_size : length (take (response_size (kind_asked first) (length response)) response) ≡ response_size (kind_asked first) (length response)
  cut_size =
      length-take-le (response_size (kind_asked first) (length response)) response (response_size_le (kind_asked first) (length response))

  -- What is handed over of an accepted frame: the sizes of its parts, which lie within the runs.
  pub accepted_sizes :
      FrameObeys first response
      → sizes (accepted (parts_of first response))
      ≡ accepted (
      record {
        header = header_size first;
        body = length first - (header_size first + 1);
        kind = kind_number (kind_asked first);
        response = response_size (kind_asked first) (length response);
      }
      )
  unfolding parts_of
  accepted_sizes o =
      let n = header_size first in
      let kind = kind_asked first in
      let cut = take (response_size kind (length response)) response in
      sizes_at n first kind cut o.long
      ∙ (λ i. accepted (record { header = n; body = length first - (n + 1); kind = kind_number kind; response = cut_size i }))

  pub handed : (p : Parts) → read_frame first response ≡ accepted p → Handed first response p
  unfolding read_frame parts_of
  handed p e =
      accepted_has (Handed first response) (read_refusal first response) (parts_of first response) p e
      (λ z.
      let o = obeys z in
      let kind = kind_asked first in
      let cut = take (response_size kind (length response)) response in
      let known = kind_le kind (response_kept kind response o.by_kind).assigned in
      let told = ap (λ (n : ℕ). take n response) (sym cut_size) in
      let within : length cut ≤ length response = omega (arith, cut_size, response_size_le kind (length response)) in
      handed_at (header_size first) first kind cut o.long response known told within o.most)
