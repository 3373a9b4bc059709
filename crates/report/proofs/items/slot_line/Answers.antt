-- Unknown without a SLOT; one that is found has the item's form and width.
use mathlib.Core.Path.{sym, ap, ◌∙◌}
use native.Mathlib.Omega.{arith}
use Rattle.catalogue.specs.Supplement.{records_of}
use Rattle.catalogue.proofs.Accepted.{good}
use Rattle.catalogue.proofs.lookup.Laws.{slot_keyed}
use Rattle.report.specs.Bits.{cut}
use Rattle.report.specs.Scaling.{form_line}
use Rattle.report.specs.Items.{slot_line}
use Rattle.report.proofs.items.slot_line.Goals as goal

pub known_line-requires : goal.known_line-requires
known_line-requires c =
    let a = c.args in
    let s = a.supplement.now in
    let keyed = slot_keyed (records_of s.bytes.now) (good s.bytes.now s.accepted) a.row.form a.row.width a.row.slot _ (sym c.in-Some.ensures) in
    omega (arith, keyed.1)

pub returns-in-Some : goal.returns-in-Some
unfolding slot_line
returns-in-Some c =
    let a = c.args in
    let s = a.supplement.now in
    let keyed = slot_keyed (records_of s.bytes.now) (good s.bytes.now s.accepted) a.row.form a.row.width a.row.slot _ (sym c.in-Some.ensures) in
    c.known_line.ensures
    ∙ (λ i. form_line (keyed.0 i) (keyed.1 i) c.in-Some.slot (cut a.bytes.now a.at (keyed.1 i)))
    ∙ ap (λ o. slot_line o a.row a.bytes.now a.at) c.in-Some.ensures

pub returns-in-None : goal.returns-in-None
unfolding slot_line
returns-in-None c =
    let a = c.args in
    ap (λ o. slot_line o a.row a.bytes.now a.at) c.in-None.ensures
