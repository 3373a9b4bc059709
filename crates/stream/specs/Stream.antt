-- The adapter's stream read at once, record by record: document 02, K4.
use Rattle.std.specs.Prelude.{ℕ, zero, suc, ◌+◌, ◌%◌, ◌^◌, cond, List, [], ◌∷◌, ◌++◌, length, take, drop, ◌==◌, Option, None, Some, option_map}
use Rattle.frame.specs.Frame.{Frame}
use Rattle.frame.specs.Refusal.{Outcome}
use Rattle.stream.specs.Record.{kind_of, is_unknown_kind, whole_size, partial, tells}

-- A frame or a refusal, and the place of its record: "bytes before it, modulo 2^64".
pub record Event : Type 0 where
  pub place : ℕ
  pub told : Outcome Frame

abbrev pub place_behind : ℕ → ℕ → ℕ
place_behind place size = (place + size) % 2 ^ 64

-- What a whole record at a place tells.
abbrev pub event_of : ℕ → List ℕ → Option Event
event_of place r = option_map (λ (o : Outcome Frame). record { place = place; told = o }) (tells r)

-- "At the end a partial record is reported by its place": the place, if there are bytes of one.
abbrev pub cut_at : ℕ → List ℕ → Option ℕ
cut_at place r = cond (length r == 0) None (Some place)

-- All that a stream gives: the events in their order, and the place of the record that its end cuts.
pub record Yield : Type 0 where
  pub events : List Event
  pub cut : Option ℕ

abbrev pub nothing_more : Yield
nothing_more = record { events = []; cut = None }

-- No event or one, as a list; and events before others.
abbrev pub listed : Option Event → List Event
listed None = []
listed (Some e) = e ∷ []

abbrev pub ahead : List Event → Yield → Yield
ahead es w = record { events = es ++ w.events; cut = w.cut }

-- From a place on, with as many turns as there are bytes, since no record is empty: "after 60 no more is read or given, after 61
-- reading goes on at the next record".
unfoldable pub whole_from : ℕ → ℕ → List ℕ → Yield
whole_from zero place s = nothing_more
whole_from (suc n) place s =
    let size = whole_size (kind_of s) in
    cond (partial s) (record { events = []; cut = cut_at place s })
    (ahead (listed (event_of place (take size s)))
    (cond (is_unknown_kind (kind_of s)) nothing_more (whole_from n (place_behind place size) (drop size s))))

abbrev pub whole_stream : List ℕ → Yield
whole_stream s = whole_from (length s) 0 s
