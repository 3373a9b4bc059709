-- Byte by byte, from a state with no whole record.
use Rattle.std.proofs.Common.{◌≡◌, ℕ, ◌+◌, ◌<◌, true, List, length, get_or, set, take, sym, ap, refl, ◌∙◌, subst, inl, inr, arith, length-take, get_or-take}
use Rattle.stream.specs.declared.state.StreamState.{StreamState}
use Rattle.stream.specs.Reader.{Position, Reached, with_byte, reach}
use Rattle.stream.specs.Record.{kind_of}
use Rattle.stream.specs.Inner.{is_to_tell, standing}
use Rattle.stream.proofs.state.Laws.{StandsAt, itself, room_left}
use Rattle.stream.proofs.reader.Laws.{stands_more, telling_is}
use Rattle.stream.proofs.reader.Going.{Reaches, Going, OnTheWay, stays, going_begins, going_tells, going_past, way_goes, way_ends}
use Rattle.stream.proofs.reader.reach.Goals as goal
use Rattle.stream.proofs.reader.reach.Goals.{then-state, else-state, else-loop-i-test, then-loop-i-test+then-is_telling}

-- The state behind the byte of this turn.
behind :
    {p : Position} {part : List ℕ} {s : StreamState} {i b : ℕ}
    → Going p part s i
    → b ≡ get_or part i 0
    → StandsAt (record { place = s.place; stopped = s.stopped; count = s.count + 1; held = set s.held s.count b }) (with_byte (standing s) (get_or part i 0))
behind {p} {part} {s} {i} {b} g e =
    subst (λ (x : ℕ). StandsAt (record { place = s.place; stopped = s.stopped; count = s.count + 1; held = set s.held s.count b }) (with_byte (standing s) x))
    e
    (stands_more s g.stands.room b (room_left g.stands g.open_record))

pub loop-i-init : goal.loop-i-init
loop-i-init c =
    let s = c.args.sound.state in
    let part = c.args.part.now in
    let w = itself s (omega arith) (omega arith) in
    elim c.if-state.branch [
      | then-state t ↦ (inr (stays s part w t.if-state.true, t.taken-is), refl)
      | else-state f ↦ (inl (going_begins s part w c.args.sound.open_record f.if-state.false, f.taken-is), refl)
    ]

pub bounds-state-state : goal.bounds-state-state
bounds-state-state c =
    let at = c.loop-i.invariant in
    let g = (way_goes at.0 (subst (λ (n : ℕ). c.loop-i.i < length (take n c.args.part.now)) (sym at.1) (omega arith))).0 in room_left g.stands g.open_record

pub loop-i-preserved : goal.loop-i-preserved
loop-i-preserved c =
    let part = c.args.part.now in
    let at = c.loop-i.invariant in
    let turn : c.loop-i.i < length (take c.if-state.taken part) = omega arith in
    let going = way_goes at.0 (subst (λ (n : ℕ). c.loop-i.i < length (take n part)) (sym at.1) turn) in
    let byte = get_or-take c.if-state.taken part c.loop-i.i 0 (omega (arith, turn, length-take c.if-state.taken part)) in
    let on =
    going_past going.0 (omega (arith, turn, length-take c.if-state.taken part)) (behind going.0 byte)
    (sym c.if-is_telling.false ∙ c.is_telling.ensures)
    c.place_behind.ensures
    c.count_behind.ensures in
    (inl (on, going.1), at.1)

-- Where the loop ends, what is reached.
told :
    {p : Position} {part : List ℕ} {s : StreamState} {i b end items : ℕ}
    → OnTheWay p part s i end
    → end ≡ items
    → i < length (take items part)
    → b ≡ get_or (take items part) i 0
    → true ≡ is_to_tell (s.count + 1) (kind_of (set s.held s.count b))
    → Reaches (i + 1) (record { place = s.place; stopped = s.stopped; count = s.count + 1; held = set s.held s.count b }) (reach p part)
told {p} {part} {s} {i} {b} {end} {items} way same turn byte tells =
    let most = length-take items part in
    let g = (way_goes way (subst (λ (n : ℕ). i < length (take n part)) (sym same) turn)).0 in
    let w = behind g (byte ∙ get_or-take items part i 0 (omega (arith, turn, most))) in
    going_tells g (omega (arith, turn, most)) w (sym (telling_is _ w.room) ∙ sym tells)

ended :
    {p : Position} {part : List ℕ} {s : StreamState} {i end items : ℕ}
    → OnTheWay p part s i end
    → end ≡ items
    → length (take items part) ≡ i
    → Reaches end s (reach p part)
ended {part = part} way same all = way_ends way (ap (λ (n : ℕ). length (take n part)) same ∙ all)

-- The same of what the branches leave.
moved : {n m : ℕ} {s t : StreamState} {r : Reached} → m ≡ n → t ≡ s → Reaches n s r → Reaches m t r
moved {n} {m} {s} {t} {r} e f there = subst (λ (k : ℕ). Reaches k t r) (sym e) (subst (λ (x : StreamState). Reaches n x r) (sym f) there)

pub invariant_of-result : goal.invariant_of-result
invariant_of-result c =
    let at = c.loop-i.invariant in
    elim c.loop-i-test.branch [
      | else-loop-i-test w ↦
          record { within = (moved w.taken-is w.state-is (ended at.0 at.1 (omega arith))).stands.within }
      | then-loop-i-test+then-is_telling w ↦
          record { within = (moved w.taken-is w.state-is (told at.0 at.1 w.loop-i-test.true refl w.if-is_telling.ensures)).stands.within }
    ]

pub returns : goal.returns
returns c =
    let at = c.loop-i.invariant in
    elim c.loop-i-test.branch [
      | else-loop-i-test w ↦
          let there = moved w.taken-is w.state-is (ended at.0 at.1 (omega arith)) in
          record { taken = there.taken; position = there.stands.position }
      | then-loop-i-test+then-is_telling w ↦
          let there = moved w.taken-is w.state-is (told at.0 at.1 w.loop-i-test.true refl w.if-is_telling.ensures) in
          record { taken = there.taken; position = there.stands.position }
    ]
