-- The stream read at once, by one computed test over a table. The cases ask what the definitions compute, so these are opened here.
use mathlib.Core.Path.{◌≡◌, refl}
use mathlib.Core.List.{map}
use Rattle.stream.specs.Record.{whole_size, partial, runs_in, runs_fit, tells}
use Rattle.stream.specs.Stream.{whole_from, whole_stream}
use Rattle.stream_vectors.specs.StreamCases.{StreamCase, stream_cases}

-- In every case of the table the definitions give what is expected.
pub stream_cases_hold : map (λ (c : StreamCase). whole_stream c.stream) stream_cases ≡ map (λ (c : StreamCase). c.gives) stream_cases
unfolding stream_cases whole_from whole_size partial runs_in runs_fit tells
stream_cases_hold = refl
