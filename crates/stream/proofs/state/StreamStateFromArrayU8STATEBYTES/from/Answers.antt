use Rattle.std.proofs.Common.{◌≡◌, not, eqb, [], ◌∷◌, ◌++◌, length, get_or, take, drop, ◌∙◌, arith, length-drop, take_all, rules}
use Rattle.std.specs.Int.{w64, from_be_bytes}
use Rattle.stream.specs.Reader.{or_none, position_of}
use Rattle.stream.specs.State.{place_bytes, count_place, held_place, most_held, stopped_place, position_in}
use Rattle.stream.proofs.state.Bytes.{held_first}
use Rattle.stream.proofs.state.StreamStateFromArrayU8STATEBYTES.from.Goals as goal

pub returns : goal.returns
unfolding position_of position_in
returns c =
    let bytes = c.args.bytes in
    let size : length (drop held_place bytes) ≡ most_held = omega (arith, length-drop held_place bytes) in
    let place : c.from_be_bytes.result ≡ from_be_bytes w64 (take place_bytes bytes) = c.from_be_bytes.ensures ∙ search rules in
    let held : take c.min.result (c.copy_from_slice.new.self ++ 0 ∷ []) ≡ take (get_or bytes count_place 0) (drop held_place bytes) =
    let copied = c.copy_from_slice.ensures.after ∙ take_all most_held (drop held_place bytes) (omega (arith, size)) in
    (λ i. take (c.min.ensures i) (copied i ++ 0 ∷ [])) ∙ held_first (drop held_place bytes) (get_or bytes count_place 0) 0 size in
    (λ i. record { place = place i; stopped = not (eqb (get_or bytes stopped_place 0) 0); begun = or_none (held i) })
