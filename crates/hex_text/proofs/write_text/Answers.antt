-- After so many turns the first so many characters stand in their places.
use Rattle.std.proofs.Common.{◌<◌, arith, length, length-take-le, take}
use Rattle.std.proofs.lemmas.List.{take_more}
use Rattle.std.proofs.lemmas.Grind.{common_steps}
use Rattle.hex_text.specs.Digits.{text_of, text_over}
use Rattle.hex_text.proofs.digits.Put.{put_next}
use Rattle.hex_text.proofs.digits.Text.{length_text}
use Rattle.hex_text.proofs.write_text.Goals as goal

pub loop-at-preserved : goal.loop-at-preserved
loop-at-preserved c =
    let text = text_of c.args.bytes.now in
    let at = c.loop-at.at in
    let room = length-take-le c.min-n.result c.args.out.now (omega arith) in
    let within : at < length text = omega (arith, length_text c.args.bytes.now) in
    let next = put_next (take at text) (take c.min-n.result c.args.out.now) at c.text_at.result (length-take-le at text (omega arith)) (omega arith) in
    let more = take_more text at 0 within in
    cc

pub returns-clause-lent : goal.returns-clause-lent
unfolding text_over
returns-clause-lent c =
    let n = length_text c.args.bytes.now in
    grind (arith, common_steps)
