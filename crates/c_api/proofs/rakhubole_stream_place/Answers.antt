-- The place that the state has is that of the position that its 24 bytes are.
use Rattle.std.proofs.Common.{ap, ◌∙◌}
use Rattle.stream.specs.Reader.{Position}
use Rattle.stream.proofs.state.Laws.{position_place}
use Rattle.c_api.proofs.rakhubole_stream_place.Goals as goal

pub returns : goal.returns
returns c = position_place c.from.result ∙ ap (λ (p : Position). p.place) c.from.ensures
