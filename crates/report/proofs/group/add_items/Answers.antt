-- After i turns the lines of the first i PRNs stand behind those that were there.
use mathlib.Core.Path.{◌≡◌, sym, subst}
use Prim.Native.Nat.{ℕ}
use native.Mathlib.Omega.{arith}
use Rattle.catalogue.specs.declared.accept.Supplement.{Supplement}
use Rattle.catalogue.specs.Supplement.{records_of}
use Rattle.catalogue.proofs.Accepted.{good}
use Rattle.catalogue.specs.Lookup.{catalogue}
use Rattle.report.specs.declared.spots.Place.{Place}
use Rattle.report.specs.declared.spots.Spot.{Spot}
use Rattle.report.specs.Spots.{spot_of}
use Rattle.report.specs.Inner.{Lying}
use Rattle.report.proofs.spots.Laws.{good_wide, spot_lying}
use Rattle.report.proofs.group.Laws.{filled_length, none_filled, one_filled, all_filled}
use Rattle.report.proofs.group.add_items.Goals as goal

-- an item lies within the window, if it lies anywhere
lies :
    (s : Supplement) (to prn : ℕ) (place : Place) (spot : Spot)
    → spot ≡ spot_of (catalogue s.bytes.now).prn to place prn
    → Lying to spot
lies s to prn place spot e =
    let wide = good_wide (records_of s.bytes.now) (good s.bytes.now s.accepted) in
    subst (Lying to) (sym e) (spot_lying (catalogue s.bytes.now).prn wide to place prn)

pub loop-prn-init : goal.loop-prn-init
loop-prn-init c = none_filled _ _ _ _ _ c.start-cursor.ensures.place c.start-cursor.ensures.to

pub item_line-requires : goal.item_line-requires
item_line-requires c =
    subst (λ (to : ℕ). Lying to c.spot_of-spot.result) c.loop-prn.invariant.ends
    (lies c.args.supplement.now c.loop-prn.cursor.to _ _ _ c.spot_of-spot.ensures)

pub push-requires : goal.push-requires
push-requires c =
    let loop = c.loop-prn in
    omega (arith, filled_length _ _ _ _ _ _ _ loop.invariant (omega arith))

pub behind-cursor-requires : goal.behind-cursor-requires
behind-cursor-requires c = lies c.args.supplement.now c.loop-prn.cursor.to _ _ _ c.spot_of-spot.ensures

pub loop-prn-preserved : goal.loop-prn-preserved
loop-prn-preserved c =
    one_filled _ _ _ _ _ _ _ c.loop-prn.invariant _ _ _ c.loop-prn-test.true c.spot_of-spot.ensures c.item_line.ensures c.push.ensures
    c.behind-cursor.ensures.place
    c.behind-cursor.ensures.to

pub push-requires-2 : goal.push-requires-2
push-requires-2 c =
    let loop = c.loop-prn in
    omega (arith, filled_length _ _ _ _ _ _ _ loop.invariant (omega arith))

pub returns : goal.returns
returns c = all_filled _ _ _ _ _ _ _ c.loop-prn.invariant _ (omega arith) c.remainder_line.ensures c.push-2.ensures
