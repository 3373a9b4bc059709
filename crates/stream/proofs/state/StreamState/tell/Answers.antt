-- What is reached is told, from any state.
use Rattle.std.proofs.Common.{◌≡◌, Bool, List, ℕ, ◌≤◌, length, sym, ap, ◌∙◌, arith}
use Rattle.stream.specs.declared.state.StreamState.{StreamState}
use Rattle.stream.specs.Record.{frame_record_size, kind_of}
use Rattle.stream.specs.Reader.{Position, is_telling, position_of, reach}
use Rattle.stream.specs.Inner.{is_to_tell, standing}
use Rattle.stream.proofs.state.Laws.{StandsAt}
use Rattle.stream.proofs.reader.Laws.{telling_is}
use Rattle.stream.proofs.reader.Gives.{told_so, answers_nothing, whole_reached, answers_record}
use Rattle.std.proofs.lemmas.Result.{err_from_is_err_and}
use Rattle.stream.proofs.state.StreamState.tell.Goals as goal

-- The state that is reached, from the position that was lent, and whether there is something to tell.
reached :
    (s : StreamState) {t : StreamState} {p : Position} (part : List ℕ) {b : Bool}
    → standing s ≡ p
    → standing t ≡ (reach (standing s) part).position
    → length t.held ≡ frame_record_size
    → t.count ≤ frame_record_size
    → b ≡ is_to_tell t.count (kind_of t.held)
    → StandsAt t (reach p part).position × (is_telling (standing t) ≡ b)
reached s {t} part from to room within tells = (
  record { position = to ∙ ap (λ (q : Position). (reach q part).position) from; room = room; within = within },
  sym (tells ∙ telling_is t room),
)

pub returns-then-not-is_telling : goal.returns-then-not-is_telling
returns-then-not-is_telling c =
    let a = c.args in
    let w = reached _ a.part.now c.sound.ensures c.reach.ensures.position (omega arith) (omega arith) c.if-not-is_telling.ensures in
    let so = told_so a.out.now (answers_nothing (position_of a.self) a.part.now (length a.out.now) w.0 w.1) in
    record { told = so.0; left = so.1 }

pub give-requires : goal.give-requires
give-requires c =
    let a = c.args in
    let w = reached _ a.part.now c.sound.ensures c.reach.ensures.position (omega arith) (omega arith) c.if-not-is_telling.ensures in
    whole_reached (position_of a.self) a.part.now 0 w.0 w.1

pub returns-in_err-runs : goal.returns-in_err-runs
returns-in_err-runs c =
    let a = c.args in
    let w = reached _ a.part.now c.sound.ensures c.reach.ensures.position (omega arith) (omega arith) c.if-not-is_telling.ensures in
    let so = told_so a.out.now (answers_record (position_of a.self) a.part.now (length a.out.now) w.0 w.1) in
    let gave = c.in_err-runs.ensures in
    let p = err_from_is_err_and c.from_residual.result c.from_residual.ensures.1 in
    rw (p.1, p.2) (record { told = gave.told ∙ so.0; left = gave.left ∙ so.1 })

pub returns : goal.returns
returns c =
    let a = c.args in
    let w = reached _ a.part.now c.sound.ensures c.reach.ensures.position (omega arith) (omega arith) c.if-not-is_telling.ensures in
    let so = told_so a.out.now (answers_record (position_of a.self) a.part.now (length a.out.now) w.0 w.1) in
    let gave = c.in_ok-runs.ensures in
    record { told = gave.told ∙ so.0; left = gave.left ∙ so.1 }
