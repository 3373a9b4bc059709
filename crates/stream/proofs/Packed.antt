-- Frames and their records, there and back: demand 2 for the adapter's records.
use Rattle.std.proofs.Common.{◌≡◌, ℕ, zero, suc, ◌+◌, ◌-◌, ◌≤◌, Bool, true, false, cond, ◌&&◌, eqb, List, [], ◌∷◌, ◌++◌, length, take, drop, Some}
use Rattle.std.proofs.Common.{replicate, sym, refl, ap, ◌∙◌, append_assoc, arith, length-append, length-drop, take-append-drop, drop-drop, take_at}
use Rattle.std.proofs.Common.{drop_at, eqb-true}
use Rattle.frame.specs.Bytes.{all_zero}
use Rattle.frame.specs.Frame.{Frame, frame_size, most_bytes}
use Rattle.frame.specs.Refusal.{refused, accepted}
use Rattle.stream.specs.Refusal.{stream_record_wrong}
use Rattle.stream.specs.Record.{frame_kind, frame_record_size, kind_of, first_length, second_length, runs_at, runs_in, runs_fit, tells, record_of}
use Rattle.stream.proofs.record.Laws.{fit_within, fit_unused, tells_frame, told_by, first_size, second_size, runs_joined}

zeros : (n : ℕ) → all_zero (replicate n 0) ≡ true
zeros zero = refl
zeros (suc n) = zeros n

-- A frame of at most twelve bytes is given by its record: "Each whole kind 1 record without fault gives its two runs, unread."
module _ (f : Frame) (few : frame_size f ≤ most_bytes) where
  abbrev rest : List ℕ
  rest = replicate (most_bytes - frame_size f) 0

  abbrev both : List ℕ
  both = f.first ++ f.response

  unused : all_zero (drop (runs_at + frame_size f) (record_of f)) ≡ true
  unfolding record_of
  unused =
      ap all_zero (sym (drop-drop (frame_size f) runs_at (record_of f)) ∙ drop_at both rest (frame_size f) (length-append f.first f.response))
      ∙ zeros (most_bytes - frame_size f)

  fits : runs_fit (record_of f) ≡ true
  unfolding record_of
  fits = sym (fit_unused (record_of f) few) ∙ unused

  runs_same : runs_in (record_of f) ≡ f
  unfolding runs_in record_of
  runs_same =
      let joined = append_assoc f.first f.response rest in
      let first : take (length f.first) (both ++ rest) ≡ f.first =
      ap (take (length f.first)) joined ∙ take_at f.first (f.response ++ rest) (length f.first) refl in
      let behind : drop (runs_at + length f.first) (record_of f) ≡ f.response ++ rest =
      sym (drop-drop (length f.first) runs_at (record_of f))
      ∙ ap (drop (length f.first)) joined
      ∙ drop_at f.first (f.response ++ rest) (length f.first) refl in
      λ i.
      record {
        first = first i;
        response = (ap (take (length f.response)) behind ∙ take_at f.response rest (length f.response) refl) i;
      }

  pub packed_back : tells (record_of f) ≡ Some (accepted f)
  unfolding record_of
  packed_back =
      tells_frame (record_of f) refl ∙ (λ i. Some (cond (fits i) (accepted (runs_same i)) (refused stream_record_wrong)))

zeros_are : (s : List ℕ) → all_zero s ≡ true → s ≡ replicate (length s) 0
zeros_are [] e = refl
zeros_are (b ∷ s) e = go (eqb b 0) refl e (zeros_are s)
  where
    go :
        (t : Bool)
        → eqb b 0 ≡ t
        → (t && all_zero s) ≡ true
        → (all_zero s ≡ true → s ≡ replicate (length s) 0)
        → b ∷ s ≡ 0 ∷ replicate (length s) 0
    go true u e later = λ i. eqb-true b 0 u i ∷ later e i
    go false u e later = absurd (let z : ◌≡◌ {A = ℕ} 0 1 = cc in omega arith)

three_first : (r : List ℕ) → length r ≡ frame_record_size → r ≡ kind_of r ∷ first_length r ∷ second_length r ∷ drop runs_at r
three_first (a ∷ b ∷ c ∷ r) e = refl
three_first [] e = absurd (let z : ◌≡◌ {A = ℕ} 0 frame_record_size = e in omega arith)
three_first (a ∷ []) e = absurd (let z : ◌≡◌ {A = ℕ} 1 frame_record_size = e in omega arith)
three_first (a ∷ b ∷ []) e = absurd (let z : ◌≡◌ {A = ℕ} 2 frame_record_size = e in omega arith)

-- A whole record that fits is that of its runs.
frame_again : (r : List ℕ) → length r ≡ frame_record_size → kind_of r ≡ frame_kind → runs_fit r ≡ true → r ≡ record_of (runs_in r)
unfolding record_of
frame_again r whole kind fits =
    let fit = fit_within r fits in
    let n = first_length r + second_length r in
    let behind = drop runs_at r in
    let left : length (drop n behind) ≡ most_bytes - n = omega (arith, length-drop n behind, length-drop runs_at r, whole, fit) in
    let unused : drop n behind ≡ replicate (most_bytes - n) 0 =
    zeros_are (drop n behind) (ap all_zero (drop-drop n runs_at r) ∙ fit_unused r fit ∙ fits)
    ∙ ap (λ (k : ℕ). replicate k 0) left in
    let first = first_size r whole fit in
    let second = second_size r whole fit in
    let size : n ≡ frame_size (runs_in r) = sym (λ i. first i + second i) in
    let runs = runs_in r in
    let twelve : behind ≡ (runs.first ++ runs.response) ++ replicate (most_bytes - frame_size runs) 0 =
    sym (take-append-drop n behind)
    ∙ (λ i. sym (runs_joined r whole fit) i ++ unused i)
    ∙ ap (λ (k : ℕ). (runs.first ++ runs.response) ++ replicate (most_bytes - k) 0) size in
    three_first r whole ∙ (λ i. kind i ∷ sym first i ∷ sym second i ∷ twelve i)

-- A whole record that gives a frame is that frame's record, byte for byte.
pub packed_again : (r : List ℕ) (f : Frame) → length r ≡ frame_record_size → tells r ≡ Some (accepted f) → r ≡ record_of f
packed_again r f whole e =
    told_by r (accepted f) e (λ kind fits h. frame_again r whole kind fits ∙ (let given : runs_in r ≡ f = cc in ap record_of given))
    (λ k h. absurd (let z : ◌≡◌ {A = ℕ} 0 1 = cc in omega arith))
    (λ k t h. absurd (let z : ◌≡◌ {A = ℕ} 0 1 = cc in omega arith))
