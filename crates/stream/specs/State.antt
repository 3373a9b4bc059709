-- The state of 24 bytes that a caller keeps between calls.
use Rattle.std.specs.Prelude.{ℕ, ◌+◌, ◌-◌, cond, not, List, ◌∷◌, ◌++◌, length, take, drop, replicate, ◌==◌, slice_index}
use Rattle.std.specs.Int.{w64, from_be_bytes, to_be_bytes}
use Rattle.stream.specs.Reader.{Position, or_none}

-- Bytes 0 to 7 the place, byte 8 stopped, byte 9 the count, bytes 10 to 23 the bytes held.
abbrev pub place_bytes : ℕ
place_bytes = 8

abbrev pub stopped_place : ℕ
stopped_place = 8

abbrev pub count_place : ℕ
count_place = 9

abbrev pub held_place : ℕ
held_place = 10

abbrev pub most_held : ℕ
most_held = 14

abbrev pub state_bytes : ℕ
state_bytes = held_place + most_held

-- The position that any 24 bytes are, and the bytes of a position; of the place the most significant byte first.
unfoldable pub position_in : List ℕ → Position
position_in s =
    record {
      place = from_be_bytes w64 (take place_bytes s);
      stopped = not (slice_index s stopped_place == 0);
      begun = or_none (take (slice_index s count_place) (drop held_place s));
    }

unfoldable pub bytes_of : Position → List ℕ
bytes_of p =
    to_be_bytes w64 p.place
    ++ cond p.stopped 1 0 ∷ length p.begun ∷ (p.begun ++ replicate (most_held - length p.begun) 0)

-- "24 zeros are a fresh state"
abbrev pub fresh_bytes : List ℕ
fresh_bytes = replicate state_bytes 0
