-- Laws of an item's line: where it is a Number, it holds a fraction.
use mathlib.Core.Path.{◌≡◌, refl}
use mathlib.Core.List.{List, [], ◌∷◌, ◌++◌, map, Memᴰ}
use Rattle.std.proofs.Common.{Option, None, Some}
use Prim.Native.Nat.{ℕ}
use Rattle.frame.specs.Bytes.{Bytes}
use Rattle.catalogue.specs.declared.rows.PrnRow.{PrnRow}
use Rattle.catalogue.specs.declared.rows.SlotRow.{SlotRow}
use Rattle.catalogue.specs.Supplement.{Good}
use Rattle.catalogue.specs.Lookup.{catalogue_of}
use Rattle.catalogue.proofs.rows.Laws.{slot_ranges, slot_sizes}
use Rattle.catalogue.proofs.lookup.Laws.{slot_in_range, slot_keyed, slot_sized_lem}
use Rattle.report.specs.declared.line.Line.{Line}
use Rattle.report.specs.declared.spots.Spot.{Spot}
use Rattle.report.specs.declared.spots.Spot.TheVariants.{Astray, Beyond, Rowless, Over, Lies}
use Rattle.report.specs.Items.{slot_line, item_line}
use Rattle.report.specs.Inner.{HoldsFraction, AllHold}
use Rattle.report.proofs.bits.Laws.{cut_lt}
use Rattle.report.proofs.scaling.Laws.{Scales, form_holds}

-- Every SLOT that is found has the width that was sought, and fields within their ranges and sizes.
abbrev pub AllScale : (ℕ → ℕ → ℕ → Option SlotRow) → Type 0
AllScale slots = (f w n : ℕ) (slot : SlotRow) → slots f w n ≡ Some slot → Scales w slot

-- So it is under good records of bytes.
pub good_scale :
    (rs : List (List ℕ)) → Good rs → ((r : List ℕ) → Memᴰ r rs → Bytes r) → AllScale (catalogue_of rs).slot
good_scale rs g b f w n slot e =
    record {
      width = (slot_keyed rs g f w n slot e).1;
      ranges = slot_ranges slot (slot_in_range rs g f w n slot e);
      sizes = slot_sizes slot (slot_sized_lem rs b f w n slot e);
    }

slot_holds :
    (o : Option SlotRow) (row : PrnRow)
    → ((slot : SlotRow) → o ≡ Some slot → Scales row.width slot)
    → (bytes : List ℕ) (at : ℕ)
    → HoldsFraction (slot_line o row bytes at)
unfolding slot_line
slot_holds None row d bytes at = tt
slot_holds (Some slot) row d bytes at =
    form_holds row.form row.width slot _ (d slot refl) (cut_lt bytes at row.width)

pub item_holds :
    (slots : ℕ → ℕ → ℕ → Option SlotRow) → AllScale slots → (bytes : List ℕ) (spot : Spot) → HoldsFraction (item_line slots bytes spot)
unfolding item_line
item_holds slots d bytes Astray = tt
item_holds slots d bytes Beyond = tt
item_holds slots d bytes Rowless = tt
item_holds slots d bytes Over = tt
item_holds slots d bytes (Lies row at) = slot_holds _ row (d row.form row.width row.slot) bytes at

pub all_append : (ls ks : List Line) → AllHold ls → AllHold ks → AllHold (ls ++ ks)
unfolding AllHold
all_append [] ks a b = b
all_append (l ∷ ls) ks a b = (a.0, all_append ls ks a.1 b)

pub all_items :
    (slots : ℕ → ℕ → ℕ → Option SlotRow) → AllScale slots → (bytes : List ℕ) (ss : List Spot) → AllHold (map (item_line slots bytes) ss)
unfolding AllHold
all_items slots d bytes [] = tt
all_items slots d bytes (s ∷ ss) = (item_holds slots d bytes s, all_items slots d bytes ss)
