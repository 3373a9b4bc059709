-- Laws of what a whole record gives, with so much lent output.
use Rattle.std.specs.Option.{option_map}
use Rattle.std.proofs.Common.{◌≡◌, ℕ, ◌+◌, ◌<◌, ◌≤◌, Bool, true, false, cond, ltb, List, ◌++◌, length, take, drop, sym, refl, ap, ◌∙◌, arith}
use Rattle.std.proofs.Common.{length-take-le, le-ltb, lt-ltb, Option, None, Some}
use Rattle.frame.specs.Bytes.{placed}
use Rattle.frame.specs.Frame.{Frame, frame_size, Runs}
use Rattle.frame.specs.Refusal.{Outcome, refused, accepted, output_short}
use Rattle.stream.specs.Refusal.{stream_kind_unknown, stream_record_wrong}
use Rattle.stream.specs.Record.{frame_kind, frame_record_size, kind_of, first_length, second_length, runs_at, runs_in, runs_fit, tells}
use Rattle.stream.specs.declared.state.StreamState.{StreamState}
use Rattle.stream.specs.Stream.{Event}
use Rattle.stream.specs.Reader.{Position, is_telling, event_at, reach, within, told_within, runs_told, out_told}
use Rattle.stream.specs.Inner.{standing, WholeRecord}
use Rattle.stream.proofs.state.Laws.{StandsAt}
use Rattle.stream.proofs.record.Laws.{size_frame, whole_size_lem, fit_within, tells_unknown, tells_frame, first_size, second_size, runs_joined}
use Rattle.stream.proofs.reader.Laws.{telling, not_told, is_told}

-- What is told, and the output left, follow from the answer; of a frame, the lengths and runs may be given by others.
pub told_so : {e o : Option (Outcome Frame)} (out : List ℕ) → e ≡ o → (runs_told o ≡ runs_told e) × (out_told o out ≡ out_told e out)
told_so out h = (ap runs_told (sym h), ap (λ (x : Option (Outcome Frame)). out_told x out) (sym h))

pub given_told :
    {e : Option (Outcome Frame)} {f : Frame} {first second : ℕ} {out' : List ℕ} (out : List ℕ)
    → e ≡ Some (accepted f)
    → first ≡ length f.first
    → second ≡ length f.response
    → out' ≡ placed out 0 (f.first ++ f.response)
    → (◌≡◌ {A = Option (Outcome Runs)} (Some (accepted (record { first = first; response = second }))) (runs_told e)) × (out' ≡ out_told e out)
given_told out h a b o =
    let so = told_so out h in ((λ i. Some (accepted (record { first = a i; response = b i }))) ∙ so.0, o ∙ so.1)

module _ (r : List ℕ) (room : ℕ) (w : WholeRecord r) where
  pub gives_unknown : (kind_of r ≡ frame_kind → ⊥) → option_map (within room) (tells r) ≡ Some (refused stream_kind_unknown)
  gives_unknown f = ap (option_map (within room)) (tells_unknown r w.no_tick f)

  module _ (f : kind_of r ≡ frame_kind) where
    pub whole_frame_lem : length r ≡ frame_record_size
    whole_frame_lem = omega (arith, w.whole, w.most, size_frame (kind_of r) f)

    tells_by : (t : Bool) → runs_fit r ≡ t → tells r ≡ Some (cond t (accepted (runs_in r)) (refused stream_record_wrong))
    tells_by t e = tells_frame r f ∙ ap (λ (b : Bool). Some (cond b (accepted (runs_in r)) (refused stream_record_wrong))) e

    pub gives_wrong : runs_fit r ≡ false → option_map (within room) (tells r) ≡ Some (refused stream_record_wrong)
    gives_wrong e = ap (option_map (within room)) (tells_by false e)

    module _ (e : runs_fit r ≡ true) where
      both_sizes : frame_size (runs_in r) ≡ first_length r + second_length r
      both_sizes = let fit = fit_within r e in (λ i. first_size r whole_frame_lem fit i + second_size r whole_frame_lem fit i)

      gives_by :
          (t : Bool)
          → ltb room (frame_size (runs_in r)) ≡ t
          → option_map (within room) (tells r) ≡ Some (cond t (refused output_short) (accepted (runs_in r)))
      gives_by t h =
          ap (option_map (within room)) (tells_by true e) ∙ ap (λ (b : Bool). Some (cond b (refused output_short) (accepted (runs_in r)))) h

      pub gives_short : room < first_length r + second_length r → option_map (within room) (tells r) ≡ Some (refused output_short)
      gives_short l = gives_by true (lt-ltb room (frame_size (runs_in r)) (omega (arith, l, both_sizes)))

      pub gives_frame : first_length r + second_length r ≤ room → option_map (within room) (tells r) ≡ Some (accepted (runs_in r))
      gives_frame l = gives_by false (le-ltb room (frame_size (runs_in r)) (omega (arith, l, both_sizes)))

      pub runs_placed :
          (out : List ℕ)
          → placed out 0 (take (first_length r + second_length r) (drop runs_at r)) ≡ placed out 0 ((runs_in r).first ++ (runs_in r).response)
      runs_placed out = ap (placed out 0) (sym (runs_joined r whole_frame_lem (fit_within r e)))

-- What a call answers, from the state that it reaches.
module _ (p : Position) (part : List ℕ) (room : ℕ) {s : StreamState} (w : StandsAt s (reach p part).position) where
  pub answers_nothing : is_telling (standing s) ≡ false → told_within p part room ≡ None
  answers_nothing t =
      ap (option_map (λ (e : Event). within room e.told)) (not_told (reach p part).position (ap is_telling (sym w.position) ∙ t))

  module _ (t : is_telling (standing s) ≡ true) where
    pub whole_reached : WholeRecord (standing s).begun
    whole_reached =
        let told = telling (standing s) t in
        record {
          whole = whole_size_lem (standing s).begun told.0;
          most = omega (arith, length-take-le s.count s.held (omega (arith, w.room, w.within)), w.within);
          no_tick = told.1;
        }

    pub answers_record : told_within p part room ≡ option_map (within room) (tells (standing s).begun)
    answers_record =
        ap (λ (q : Position). option_map (λ (e : Event). within room e.told) (event_at q)) (sym w.position)
        ∙ ap (option_map (λ (e : Event). within room e.told)) (is_told (standing s) t)
        ∙ unplaced (tells (standing s).begun)
      where
        unplaced :
            (o : Option (Outcome Frame))
            → option_map (λ (e : Event). within room e.told) (option_map (λ (x : Outcome Frame). record { place = s.place; told = x }) o)
            ≡ option_map (within room) o
        unplaced None = refl
        unplaced (Some x) = refl
