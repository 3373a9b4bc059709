use Rattle.std.proofs.Common.{ap, ◌∙◌, arith}
use Rattle.stream.specs.Reader.{Position}
use Rattle.stream.specs.Record.{partial}
use Rattle.stream.proofs.state.Laws.{stands_sound, open_position, room_left}
use Rattle.stream.proofs.state.StreamState.sound.Goals as goal

pub invariant_of-result : goal.invariant_of-result
invariant_of-result c =
    let s = c.args.self in
    let w = stands_sound s (omega arith) c.count_behind-count.ensures in
    let whole = ap (λ (p : Position). partial p.begun) w.position ∙ open_position s in
    record { few = omega (arith, room_left w whole); open_record = whole }

pub returns : goal.returns
returns c = let s = c.args.self in (stands_sound s (omega arith) c.count_behind-count.ensures).position
