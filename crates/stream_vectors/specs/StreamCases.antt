-- Streams in one table, read beside document 02, K4: the bytes, the frames and refusals with their places, and the place of the record
-- that the end cuts.
use Rattle.std.specs.Prelude.{ℕ, List, [], ◌∷◌, ◌++◌, Option, None, Some}
use Rattle.frame.specs.Refusal.{refused, accepted}
use Rattle.stream.specs.Stream.{Event, Yield}

pub record StreamCase : Type 0 where
  pub stream : List ℕ
  pub gives : Yield

abbrev pub case : List ℕ → List Event → Option ℕ → StreamCase
case s events cut = record { stream = s; gives = record { events = events; cut = cut } }

abbrev pub frame_at : ℕ → List ℕ → List ℕ → Event
frame_at place first second = record { place = place; told = accepted (record { first = first; response = second }) }

abbrev pub refusal_at : ℕ → ℕ → Event
refusal_at place n = record { place = place; told = refused n }

-- "kind 2 with body 4 is a tick to be skipped"
abbrev pub tick : List ℕ
tick = 2 ∷ 0x12 ∷ 0x34 ∷ 0x56 ∷ 0x78 ∷ []

-- "length of the first run, length of the second, twelve bytes, unused ones zero": document 01's frame, which has no response; and twelve
-- bytes in all.
abbrev pub seven_bytes : List ℕ
seven_bytes = 0x48 ∷ 0x6B ∷ 0x10 ∷ 0x41 ∷ 0x65 ∷ 0x80 ∷ 0x29 ∷ []

abbrev pub frame_record : List ℕ
frame_record = 1 ∷ 7 ∷ 0 ∷ (seven_bytes ++ 0 ∷ 0 ∷ 0 ∷ 0 ∷ 0 ∷ [])

abbrev pub twelve_bytes : List ℕ
twelve_bytes = 1 ∷ 2 ∷ 3 ∷ 4 ∷ 5 ∷ 6 ∷ 7 ∷ 8 ∷ 9 ∷ 10 ∷ 11 ∷ 12 ∷ []

unfoldable pub stream_cases : List StreamCase
stream_cases =
    -- no bytes; a tick; a frame; one behind a tick
    case [] [] None
    ∷ case tick [] None
    ∷ case frame_record (frame_at 0 seven_bytes [] ∷ []) None
    ∷ case (tick ++ frame_record) (frame_at 5 seven_bytes [] ∷ []) None
    -- "Each whole kind 1 record without fault gives its two runs, unread", twelve bytes or none
    ∷ case (1 ∷ 9 ∷ 3 ∷ twelve_bytes)
    (frame_at 0 (1 ∷ 2 ∷ 3 ∷ 4 ∷ 5 ∷ 6 ∷ 7 ∷ 8 ∷ 9 ∷ []) (10 ∷ 11 ∷ 12 ∷ []) ∷ []) None
    ∷ case (1 ∷ 0 ∷ 0 ∷ 0 ∷ 0 ∷ 0 ∷ 0 ∷ 0 ∷ 0 ∷ 0 ∷ 0 ∷ 0 ∷ 0 ∷ 0 ∷ 0 ∷ []) (frame_at 0 [] [] ∷ []) None
    -- "60 unknown kind"; "after 60 no more is read or given"
    ∷ case (0 ∷ frame_record) (refusal_at 0 60 ∷ []) None
    ∷ case (frame_record ++ tick ++ 3 ∷ 1 ∷ []) (frame_at 0 seven_bytes [] ∷ refusal_at 20 60 ∷ []) None
    -- "61 lengths over 12 together or unused bytes not zero"; "after 61 reading goes on at the next record"
    ∷ case (1 ∷ 9 ∷ 4 ∷ (twelve_bytes ++ frame_record)) (refusal_at 0 61 ∷ frame_at 15 seven_bytes [] ∷ []) None
    ∷ case (1 ∷ 9 ∷ 2 ∷ (twelve_bytes ++ tick)) (refusal_at 0 61 ∷ []) None
    -- "62 stream ended inside a record (61 is given only for a whole one)"
    ∷ case (frame_record ++ 1 ∷ 9 ∷ 4 ∷ []) (frame_at 0 seven_bytes [] ∷ []) (Some 15)
    ∷ case (tick ++ 2 ∷ []) [] (Some 5)
    ∷ []
