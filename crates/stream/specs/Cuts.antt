-- What the law of cuts says, and the laws beside it: document 02, K4.
use Rattle.std.specs.Prelude.{◌≡◌, ℕ, ◌%◌, ◌^◌, ◌<◌, ◌≤◌, true, cond, ◌⊎◌, List, [], ◌++◌, length, ◌==◌}
use Rattle.frame.specs.Frame.{Frame}
use Rattle.frame.specs.Refusal.{Outcome, refused, accepted, no_refusal}
use Rattle.stream.specs.Refusal.{stream_kind_unknown}
use Rattle.stream.specs.Record.{frame_record_size, partial}
use Rattle.stream.specs.Stream.{whole_stream}
use Rattle.stream.specs.Reader.{Position, fresh, end_place, end_refusal}
use Rattle.stream.specs.State.{most_held}
use Rattle.stream.specs.Calls.{Form, Run, Lent, calls_over}

-- A position between calls: of a record the beginning is held, and never all of it.
pub record BetweenCalls (p : Position) : Type 0 where
  pub place : p.place < 2 ^ 64
  pub open_record : partial p.begun ≡ true

-- A form that gives back each position between calls, and the fresh state in it.
pub record Keeping {S : Type 0} (f : Form S) (start : S) : Type 0 where
  pub back : (p : Position) → BetweenCalls p → f.view (f.write p) ≡ p
  pub starts : f.write fresh ≡ start

-- All was taken, or reading has stopped, after which no call takes more.
abbrev pub AllRead : {S : Type 0} → Form S → Run S → Type 0
AllRead f r = (r.rest ≡ []) ⊎ ((f.view r.state).stopped ≡ true)

-- "the same frames and refusals, in the same order, as if the stream had come at once", each with its place; and at the end the place of
-- the record that the stream ends in, exactly if it does.
pub record AsAtOnce {S : Type 0} (f : Form S) (s : List ℕ) (r : Run S) : Type 0 where
  pub events : r.events ≡ (whole_stream s).events
  pub end : end_place (f.view r.state) ≡ (whole_stream s).cut

-- How long the record of an event is: of an unknown kind one byte, else a frame's. So far behind the event's place the next one stands.
abbrev pub size_told : Outcome Frame → ℕ
size_told (refused n) = cond (n == stream_kind_unknown) 1 frame_record_size
size_told (accepted f) = frame_record_size

-- "a state that calls made from fresh holds at most fourteen bytes, and they are the bytes of a record begun": in the stream they stand
-- right before the bytes not yet taken, and the place is that of the first, "bytes before it, modulo 2^64". The state is the one that
-- its position has.
pub record HoldsBegun {S : Type 0} (f : Form S) (s : List ℕ) (r : Run S) : Type 0 where
  pub written : f.write (f.view r.state) ≡ r.state
  pub few : length (f.view r.state).begun ≤ most_held
  pub open_record : partial (f.view r.state).begun ≡ true
  pub before : List ℕ
  pub stands : s ≡ before ++ ((f.view r.state).begun ++ r.rest)
  pub place : (f.view r.state).place ≡ length before % 2 ^ 64

-- "after 60 every call takes nothing and gives nothing, and the end is 0"
pub record NoMore {S : Type 0} (f : Form S) (s : S) : Type 0 where
  pub taken : (cs : List Lent) (rest : List ℕ) → (calls_over f cs s rest).rest ≡ rest
  pub given : (cs : List Lent) (rest : List ℕ) → (calls_over f cs s rest).events ≡ []
  pub end : (cs : List Lent) (rest : List ℕ) → end_refusal (f.view (calls_over f cs s rest).state) ≡ no_refusal
