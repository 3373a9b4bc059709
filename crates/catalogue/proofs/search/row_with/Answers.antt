-- A row between `low` and `high` is the one, or parts those below and above it; with none between, no row is.
use Rattle.std.proofs.Common.{◌∙◌, ◌+◌, ◌-◌, ◌/◌, Some, ap, sym, arith, ltb}
use borrow.Author.Tests.{ltb-true, ltb-false}
use Rattle.frame.proofs.bytes.Laws.{cases}
use Rattle.catalogue.proofs.search.Laws.{up, there, absent}
use Rattle.catalogue.proofs.search.row_with.Goals as goal

pub returns-then-found-key : goal.returns-then-found-key
returns-then-found-key g c =
    let key = g.R.Row.key in
    let row = c.index-rows-mid.result in
    let at = c.index-rows-mid.is in
    let loop = c.loop-low in
    let mid = loop.low + (loop.high - loop.low) / 2 in
    ap Some at ∙ there key c.args.rows.now c.args.key c.requires mid row (omega arith) (ap key (sym at) ∙ sym c.key-found.ensures ∙ c.if-found-key.true)

pub loop-low-preserved-then-found-key-2 : goal.loop-low-preserved-then-found-key-2
loop-low-preserved-then-found-key-2 g c =
    let key = g.R.Row.key in
    let row = c.index-rows-mid.result in
    let is = ap key c.index-rows-mid.is in
    let loop = c.loop-low in
    let mid = loop.low + (loop.high - loop.low) / 2 in
    record {
      order = omega arith;
      within = loop.invariant.within;
      below = λ i e h. omega (arith, up key c.args.rows.now c.args.key c.requires i mid e row (omega arith) (omega arith), is, c.key-found.ensures);
      above = loop.invariant.above;
    }

pub loop-low-preserved : goal.loop-low-preserved
loop-low-preserved g c =
    let key = g.R.Row.key in
    let row = c.index-rows-mid.result in
    let is = ap key c.index-rows-mid.is in
    let loop = c.loop-low in
    let mid = loop.low + (loop.high - loop.low) / 2 in
    record {
      order = omega arith;
      within = omega arith;
      below = loop.invariant.below;
      above = λ i e h l. omega (arith, up key c.args.rows.now c.args.key c.requires mid i row e h l, is, c.key-found.ensures);
    }

pub returns : goal.returns
returns g c =
    let loop = c.loop-low in
    absent g.R.Row.key c.args.rows.now c.args.key c.requires
    (λ i e h same.
    cases (ltb i loop.low)
    (λ t. omega (arith, loop.invariant.below i e (ltb-true i loop.low t), same))
    (λ f. omega (arith, loop.invariant.above i e (omega (arith, ltb-false i loop.low f)) h, same)))
