-- Records of the adapter's stream: document 02, K4. A record is its bytes, the kind byte first.
use Rattle.std.specs.Prelude.{Option, None, Some}
use Rattle.std.specs.Prelude.{ℕ, ◌+◌, ◌-◌, Bool, cond, not, ◌&&◌, List, ◌∷◌, ◌++◌, length, take, drop, replicate, ◌==◌, nat_le, nat_lt, slice_index}
use Rattle.frame.specs.Bytes.{all_zero}
use Rattle.frame.specs.Frame.{Frame, frame_size, most_bytes}
use Rattle.frame.specs.Refusal.{Outcome, refused, accepted}
use Rattle.stream.specs.Refusal.{stream_kind_unknown, stream_record_wrong}

-- "kind 1 with body 14 is a frame"; "kind 2 with body 4 is a tick".
abbrev pub frame_kind : ℕ
frame_kind = 1

abbrev pub tick_kind : ℕ
tick_kind = 2

abbrev pub frame_record_size : ℕ
frame_record_size = 1 + 14

abbrev pub tick_record_size : ℕ
tick_record_size = 1 + 4

-- A record's kind. No bytes have that of no record.
abbrev pub kind_of : List ℕ → ℕ
kind_of r = slice_index r 0

abbrev pub is_unknown_kind : ℕ → Bool
is_unknown_kind kind = not (kind == frame_kind) && not (kind == tick_kind)

-- How many bytes a record of a kind has; of an unknown kind only that byte is taken.
unfoldable pub whole_size : ℕ → ℕ
whole_size kind = cond (kind == frame_kind) frame_record_size (cond (kind == tick_kind) tick_record_size 1)

-- Whether bytes are the beginning of a record, and not yet all of it. No bytes are.
unfoldable pub partial : List ℕ → Bool
partial r = nat_lt (length r) (whole_size (kind_of r))

-- A frame record: "length of the first run, length of the second, twelve bytes, unused ones zero".
abbrev pub first_length : List ℕ → ℕ
first_length r = slice_index r 1

abbrev pub second_length : List ℕ → ℕ
second_length r = slice_index r 2

abbrev pub runs_at : ℕ
runs_at = 3

unfoldable pub runs_in : List ℕ → Frame
runs_in r =
    record {
      first = take (first_length r) (drop runs_at r);
      response = take (second_length r) (drop (runs_at + first_length r) r);
    }

-- What 61 refuses has "lengths over 12 together or unused bytes not zero".
unfoldable pub runs_fit : List ℕ → Bool
runs_fit r = nat_le (first_length r + second_length r) most_bytes && all_zero (drop (runs_at + (first_length r + second_length r)) r)

-- What a whole record tells: a tick nothing; a frame "its two runs, unread", or 61; an unknown kind 60.
unfoldable pub tells : List ℕ → Option (Outcome Frame)
tells r =
    cond (kind_of r == tick_kind) None
    (cond (kind_of r == frame_kind) (Some (cond (runs_fit r) (accepted (runs_in r)) (refused stream_record_wrong)))
    (Some (refused stream_kind_unknown)))

-- The record of a frame of at most twelve bytes, as the adapter makes it.
unfoldable pub record_of : Frame → List ℕ
record_of f =
    frame_kind ∷ length f.first ∷ length f.response ∷ ((f.first ++ f.response) ++ replicate (most_bytes - frame_size f) 0)
