-- One call of the reader that is fed part after part: document 02, K4.
use Rattle.std.specs.Prelude.{Option, None, Some, option_map}
use Rattle.std.specs.Prelude.{ℕ, suc, Bool, false, cond, not, ◌&&◌, List, [], ◌∷◌, ◌++◌, length, take, ◌==◌, nat_lt, Result, Ok, Err}
use Rattle.frame.specs.Frame.{Frame, frame_size, Runs, runs, out_written}
use Rattle.frame.specs.Refusal.{Outcome, refused, accepted, no_refusal, output_short, outcome_by}
use Rattle.frame.specs.declared.frame.Runs as given
use Rattle.stream.specs.declared.state.StreamState.{StreamState}
use Rattle.stream.specs.declared.reader.Advanced.{Advanced}
use Rattle.stream.specs.declared.refusal.Refusal.{Refusal}
use Rattle.stream.specs.Refusal.{stream_cut, number_of}
use Rattle.stream.specs.Record.{tick_kind, kind_of, is_unknown_kind, partial}
use Rattle.stream.specs.Stream.{Event, event_of, cut_at, place_behind}

-- Where reading stands: the place of the record begun, or of the next; whether it has stopped; the bytes of the record begun.
pub record Position : Type 0 where
  pub place : ℕ
  pub stopped : Bool
  pub begun : List ℕ

abbrev pub fresh : Position
fresh = record { place = 0; stopped = false; begun = [] }

-- One byte more.
abbrev pub with_byte : Position → ℕ → Position
with_byte p b = record { place = p.place; stopped = p.stopped; begun = p.begun ++ (b ∷ []) }

-- Behind a whole record reading stands at the next, and has stopped if the kind is unknown.
unfoldable pub passed : Position → Position
passed p =
    cond (partial p.begun) p
    (record { place = place_behind p.place (length p.begun); stopped = is_unknown_kind (kind_of p.begun); begun = [] })

-- Whether a frame or refusal stands there: a whole record that is no tick.
unfoldable pub is_telling : Position → Bool
is_telling p = not (partial p.begun) && not (kind_of p.begun == tick_kind)

unfoldable pub event_at : Position → Option Event
event_at p = cond (partial p.begun) None (event_of p.place p.begun)

-- What a call reaches, and the bytes taken: "A call stops after the first frame or refusal and tells the bytes taken." Once reading has
-- stopped it takes none.
pub record Reached : Type 0 where
  pub position : Position
  pub taken : ℕ

abbrev pub one_more : Reached → Reached
one_more r = record { position = r.position; taken = suc r.taken }

unfoldable pub reach : Position → List ℕ → Reached
reach p [] = record { position = p; taken = 0 }
reach p (b ∷ part) =
    cond p.stopped (record { position = p; taken = 0 })
    (cond (is_telling (with_byte p b)) (record { position = with_byte p b; taken = 1 }) (one_more (reach (passed (with_byte p b)) part)))

-- What the call tells, how many bytes it takes, and where reading then stands.
abbrev pub told : Position → List ℕ → Option Event
told p part = event_at (reach p part).position

abbrev pub taken : Position → List ℕ → ℕ
taken p part = (reach p part).taken

abbrev pub after : Position → List ℕ → Position
after p part = passed (reach p part).position

-- With so much lent output: 8 where it is shorter than the two runs.
abbrev pub outgrows : Outcome Frame → ℕ → Bool
outgrows (refused n) room = false
outgrows (accepted f) room = nat_lt room (frame_size f)

abbrev pub within : ℕ → Outcome Frame → Outcome Frame
within room o = cond (outgrows o room) (refused output_short) o

abbrev pub told_within : Position → List ℕ → ℕ → Option (Outcome Frame)
told_within p part room = option_map (λ (e : Event). within room e.told) (told p part)

-- What is handed over of it: the length of each run; and the lent output afterwards.
abbrev pub runs_told : Option (Outcome Frame) → Option (Outcome Runs)
runs_told o = option_map runs o

abbrev pub out_told : Option (Outcome Frame) → List ℕ → List ℕ
out_told None out = out
out_told (Some o) out = out_written o out

-- The end of the stream: the place of the record begun, if there is one, after 60 none; and 62 where there is such a place.
unfoldable pub end_place : Position → Option ℕ
end_place p = cond p.stopped None (cut_at p.place p.begun)

abbrev pub cut_refusal : Option ℕ → ℕ
cut_refusal None = no_refusal
cut_refusal (Some place) = stream_cut

abbrev pub end_refusal : Position → ℕ
end_refusal p = cut_refusal (end_place p)

-- The position that a state by value is. Bytes that no partial record has count as none, so that every state is one.
abbrev pub or_none : List ℕ → List ℕ
or_none r = cond (partial r) r []

unfoldable pub position_of : StreamState → Position
position_of s = record { place = s.place; stopped = s.stopped; begun = or_none (take s.count s.held) }

-- What the advancing call takes, and where its state stands.
abbrev pub advanced_of : Advanced → Reached
advanced_of a = record { position = position_of a.state; taken = a.taken }

-- The length of each run of a frame that is given, or the refusal; and what the telling call gives, which may be nothing.
abbrev pub given_of : Result given.Runs Refusal → Outcome Runs
given_of r = outcome_by (λ (g : given.Runs). record { first = g.first; response = g.response }) number_of r

abbrev pub told_of : Result (Option given.Runs) Refusal → Option (Outcome Runs)
told_of (Ok None) = None
told_of (Ok (Some g)) = Some (given_of (Ok g))
told_of (Err e) = Some (given_of (Err e))
