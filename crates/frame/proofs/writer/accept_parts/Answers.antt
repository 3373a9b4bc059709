-- A length over the limit makes the whole too long; a header has one byte or three.
use Rattle.std.proofs.Common.{arith}
use Rattle.std.proofs.lemmas.Grind.{common_steps}
use Rattle.frame.specs.Count.{count_refusal, count_rules}
use Rattle.frame.specs.Refusal.{first_broken}
use Rattle.frame.specs.Writer.{write_rules_with, write_rules, write_refusal}
use Rattle.frame.proofs.header.Laws.{header_range}
use Rattle.frame.proofs.writer.Laws.{over_most}
use Rattle.frame.proofs.writer.accept_parts.Goals as goal

pub returns-then-body-gt-MOST_BYTES : goal.returns-then-body-gt-MOST_BYTES
unfolding write_refusal write_rules write_rules_with first_broken count_refusal count_rules
returns-then-body-gt-MOST_BYTES c =
    let over = over_most c.args.header.now c.args.body.now c.args.response.now (omega (arith, c.if-body-gt-MOST_BYTES.true)) in
    grind (arith, common_steps, over)

pub returns-then-response-gt-MOST_BYTES : goal.returns-then-response-gt-MOST_BYTES
unfolding write_refusal write_rules write_rules_with first_broken count_refusal count_rules
returns-then-response-gt-MOST_BYTES c =
    let over = over_most c.args.header.now c.args.body.now c.args.response.now (omega (arith, c.if-response-gt-MOST_BYTES.true)) in
    grind (arith, common_steps, over)

pub frame_size-size-requires : goal.frame_size-size-requires
frame_size-size-requires c = omega (arith, c.if-header-header_size.false, c.header_size.ensures, header_range c.args.header.now)
