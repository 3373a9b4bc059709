-- What only inner functions cite: a state as the loop has it, which may hold a whole record. No public contract reaches here.
use Rattle.std.specs.Prelude.{◌≡◌, ℕ, ◌≤◌, Bool, true, cond, not, ◌&&◌, List, length, take, ◌==◌, nat_lt}
use Rattle.frame.specs.declared.frame.Runs as given
use Rattle.stream.specs.declared.state.StreamState.{StreamState}
use Rattle.stream.specs.declared.record.Kind.{Kind}
use Rattle.stream.specs.declared.record.Kind.TheVariants.{Frame, Tick, Unknown}
use Rattle.stream.specs.Record.{frame_kind, tick_record_size, frame_record_size, tick_kind, kind_of, whole_size, first_length, second_length, runs_fit}
use Rattle.stream.specs.Reader.{Position}

-- So many bytes of a kind are not yet a whole record; and are one that is no tick.
abbrev pub is_open : ℕ → ℕ → Bool
is_open count kind = nat_lt count (whole_size kind)

abbrev pub is_to_tell : ℕ → ℕ → Bool
is_to_tell count kind = not (is_open count kind) && not (kind == tick_kind)

-- The kind that a byte is, and how long its records are: `whole_size`.
abbrev pub kind_at : ℕ → Kind
kind_at k = cond (k == frame_kind) Frame (cond (k == tick_kind) Tick Unknown)

abbrev pub size_of : Kind → ℕ
size_of Frame = frame_record_size
size_of Tick = tick_record_size
size_of Unknown = 1

abbrev pub standing : StreamState → Position
standing s = record { place = s.place; stopped = s.stopped; begun = take s.count s.held }

-- A whole record that is no tick.
pub record WholeRecord (r : List ℕ) : Type 0 where
  pub whole : whole_size (kind_of r) ≤ length r
  pub most : length r ≤ frame_record_size
  pub no_tick : kind_of r ≡ tick_kind → ⊥

-- The lengths that a whole frame record has, whose runs fit.
pub record LengthsOf (g : given.Runs) (r : List ℕ) : Type 0 where
  pub fit : runs_fit r ≡ true
  pub first : g.first ≡ first_length r
  pub response : g.response ≡ second_length r
