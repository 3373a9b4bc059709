-- Laws of spots: an item with room and one without, where spots lie, and one spot more.
use mathlib.Core.Path.{◌≡◌, refl, ap}
use mathlib.Core.List.{List, [], ◌∷◌, ◌++◌}
use Rattle.std.proofs.Common.{Option, None, Some}
use Prim.Native.Nat.{ℕ, suc, ◌+◌, ◌≤◌, ◌<◌}
use borrow.Author.Tests.{lt-ltb, le-ltb, ltb-false}
use lib.Dec.{ltb}
use lib.ListN.{length}
use Rattle.frame.proofs.bytes.Laws.{cases}
use Rattle.catalogue.specs.declared.rows.PrnRow.{PrnRow}
use Rattle.catalogue.specs.Supplement.{Good}
use Rattle.catalogue.specs.Lookup.{catalogue_of}
use Rattle.catalogue.proofs.rows.Laws.{prn_ranges}
use Rattle.catalogue.proofs.lookup.Laws.{prn_in_range}
use Rattle.report.specs.declared.spots.Place.{Place}
use Rattle.report.specs.declared.spots.Place.TheVariants.{Bit, Lost, Past}
use Rattle.report.specs.declared.spots.Spot.{Spot}
use Rattle.report.specs.declared.spots.Spot.TheVariants.{Over, Lies}
use Rattle.report.specs.Spots.{spot_at, spot_of, behind, spots, place_after}
use Rattle.report.specs.Inner.{Lying}

-- An item that ends past the window, and one that does not.
module _ (row : PrnRow) (to at : ℕ) where
  pub spot_over : to < at + row.width → spot_at (Some row) to at ≡ Over
  unfolding spot_at
  spot_over h = rw (lt-ltb to (at + row.width) h)

  pub spot_lies : at + row.width ≤ to → spot_at (Some row) to at ≡ Lies row at
  unfolding spot_at
  spot_lies h = rw (le-ltb to (at + row.width) h)

-- Every row that is found has a width.
abbrev pub Wide : (ℕ → Option PrnRow) → Type 0
Wide rows = (prn : ℕ) (row : PrnRow) → rows prn ≡ Some row → 1 ≤ row.width

-- So an item that lies somewhere has one, and lies within the window.
spot_at_lying : (o : Option PrnRow) (to at : ℕ) → ((row : PrnRow) → o ≡ Some row → 1 ≤ row.width) → Lying to (spot_at o to at)
unfolding spot_at
spot_at_lying None to at w = tt
spot_at_lying (Some row) to at w =
    cases (ltb to (at + row.width)) (λ t. rw t tt) (λ f. rw f (w row refl, ltb-false to (at + row.width) f))

pub spot_lying : (rows : ℕ → Option PrnRow) → Wide rows → (to : ℕ) (place : Place) (prn : ℕ) → Lying to (spot_of rows to place prn)
unfolding spot_of
spot_lying rows w to Lost prn = tt
spot_lying rows w to Past prn = tt
spot_lying rows w to (Bit at) prn = spot_at_lying (rows prn) to at (w prn)

-- One PRN more: one spot more, from the place behind the others.
module _ (rows : ℕ → Option PrnRow) (to : ℕ) where
  pub spots_snoc :
      (prns : List ℕ) (prn : ℕ) (place : Place)
      → spots rows to place (prns ++ prn ∷ []) ≡ spots rows to place prns ++ spot_of rows to (place_after place (spots rows to place prns)) prn ∷ []
  unfolding spots place_after
  spots_snoc [] prn place = refl
  spots_snoc (p ∷ prns) prn place =
      ap (λ (ss : List Spot). spot_of rows to place p ∷ ss) (spots_snoc prns prn (behind (spot_of rows to place p)))

  pub spots_length : (prns : List ℕ) (place : Place) → length (spots rows to place prns) ≡ length prns
  unfolding spots
  spots_length [] place = refl
  spots_length (p ∷ prns) place = ap suc (spots_length prns (behind (spot_of rows to place p)))

pub after_snoc : (ss : List Spot) (spot : Spot) (place : Place) → place_after place (ss ++ spot ∷ []) ≡ behind spot
unfolding place_after
after_snoc [] spot place = refl
after_snoc (s ∷ ss) spot place = after_snoc ss spot (behind s)

-- In a catalogue of good records every row that is found has a width.
pub good_wide : (rs : List (List ℕ)) → Good rs → Wide (catalogue_of rs).prn
good_wide rs g prn row e = (prn_ranges row (prn_in_range rs g prn row e)).width_least
