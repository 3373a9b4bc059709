-- Laws of a state by value.
use Rattle.std.proofs.Common.{◌≡◌, ℕ, ◌<◌, ◌≤◌, Bool, true, false, cond, List, [], length, take, sym, refl, ap, ◌∙◌, arith}
use Rattle.std.proofs.Common.{length-take-le, ltb-true}
use Rattle.frame.proofs.bytes.Laws.{cases}
use Rattle.stream.specs.declared.state.StreamState.{StreamState}
use Rattle.stream.specs.Record.{frame_record_size, kind_of, whole_size, partial}
use Rattle.stream.specs.Reader.{Position, position_of}
use Rattle.stream.specs.Inner.{is_open, standing}
use Rattle.stream.proofs.record.Laws.{size_within, part_size, partial_of, no_bytes}

-- A state stands at a position: the bytes held are of one record, all of it at most.
pub record StandsAt (s : StreamState) (p : Position) : Type 0 where
  pub position : standing s ≡ p
  pub room : length s.held ≡ frame_record_size
  pub within : s.count ≤ frame_record_size

pub itself : (s : StreamState) → length s.held ≡ frame_record_size → s.count ≤ frame_record_size → StandsAt s (standing s)
itself s room within = record { position = refl; room = room; within = within }

module _ (s : StreamState) (room : length s.held ≡ frame_record_size) where
  -- With none held where no partial record has them, a state stands where it is.
  pub stands_sound :
      {n : ℕ}
      → n ≡ cond (is_open s.count (kind_of s.held)) s.count 0
      → StandsAt (record { place = s.place; stopped = s.stopped; count = n; held = s.held }) (position_of s)
  unfolding position_of
  stands_sound {n} e =
      let size = whole_size (kind_of s.held) in
      record {
        position =
            (λ i. record { place = s.place; stopped = s.stopped; begun = take (e i) s.held })
            ∙ ap (λ (u : List ℕ). record { place = s.place; stopped = s.stopped; begun = u })
            (part_taken (is_open s.count (kind_of s.held))
            ∙ ap (λ (t : Bool). cond t (take s.count s.held) []) (sym (partial_of s.held s.count room)));
        room = room;
        within = omega (arith, e, few (is_open s.count (kind_of s.held)) refl, (size_within (kind_of s.held)).1);
      }
    where
      part_taken : (t : Bool) → take (cond t s.count 0) s.held ≡ cond t (take s.count s.held) []
      part_taken true = refl
      part_taken false = refl

      few : (t : Bool) → is_open s.count (kind_of s.held) ≡ t → cond t s.count 0 ≤ whole_size (kind_of s.held)
      few true o = let l : s.count < whole_size (kind_of s.held) = ltb-true s.count (whole_size (kind_of s.held)) o in omega (arith, l)
      few false o = omega arith

-- Every state by value is at a position with no whole record; and where a state stands there, it is at it.
pub open_position : (s : StreamState) → partial (position_of s).begun ≡ true
unfolding position_of
open_position s = cases (partial (take s.count s.held)) (λ e. rw e e) (λ e. rw e no_bytes)

pub at_position : {s : StreamState} {p : Position} → StandsAt s p → partial p.begun ≡ true → position_of s ≡ p
unfolding position_of
at_position {s} {p} w o =
    let e : partial (standing s).begun ≡ true = ap (λ (q : Position). partial q.begun) w.position ∙ o in
    ap (λ (t : Bool). record { place = s.place; stopped = s.stopped; begun = cond t (take s.count s.held) [] }) e ∙ w.position

-- A partial record leaves room for a byte.
pub room_left : {s : StreamState} {p : Position} → StandsAt s p → partial (standing s).begun ≡ true → s.count < frame_record_size
room_left {s} w e =
    let size = length-take-le s.count s.held (omega (arith, w.room, w.within)) in
    omega (arith, part_size (standing s).begun e, (size_within (kind_of (standing s).begun)).1, size)

-- The place is the state's own.
pub position_place : (s : StreamState) → s.place ≡ (position_of s).place
unfolding position_of
position_place s = refl
