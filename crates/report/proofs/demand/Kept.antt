-- What a smaller catalogue does to spots, lines and groups: each is the same, or Unknown.
use mathlib.Core.Path.{◌≡◌, refl, sym, ap, subst}
use mathlib.Core.Logic.{◌⊎◌, inl, inr, ⊎_elim}
use mathlib.Core.Bool.{true}
use mathlib.Core.List.{List, [], ◌∷◌, map}
use Rattle.std.proofs.Common.{Option, None, Some}
use Prim.Native.Nat.{ℕ}
use native.Mathlib.Omega.{arith}
use lib.ListN.{length}
use Rattle.catalogue.specs.declared.rows.PrnRow.{PrnRow}
use Rattle.catalogue.specs.declared.rows.SlotRow.{SlotRow}
use Rattle.catalogue.specs.Record.{LayoutRow}
use Rattle.catalogue.specs.Lookup.{Catalogue, Within}
use Rattle.report.specs.declared.spots.Place.{Place}
use Rattle.report.specs.declared.spots.Place.TheVariants.{Bit, Lost, Past}
use Rattle.report.specs.declared.spots.Spot.{Spot}
use Rattle.report.specs.declared.spots.Spot.TheVariants.{Astray, Beyond, Rowless, Over, Lies}
use Rattle.report.specs.declared.line.Line.{Line}
use Rattle.report.specs.Line.{is_unknown}
use Rattle.report.specs.Spots.{spot_at, spot_of, behind, spots, place_after}
use Rattle.report.specs.Items.{slot_line, item_line}
use Rattle.report.specs.Report.{Part, Group, remainder_at, spots_in, group_of}

-- Two lists, as many on either side, each with its fellow.
abbrev pub AllWith : {A B : Type 0} → (A → B → Type 0) → List A → List B → Type 0
AllWith K [] [] = Unit {0}
AllWith K [] (b ∷ bs) = ⊥
AllWith K (a ∷ as₁) [] = ⊥
AllWith K (a ∷ as₁) (b ∷ bs) = K a b × AllWith K as₁ bs

pub all_map :
    {A B C D : Type 0} (K : A → B → Type 0) (L : C → D → Type 0) (f : A → C) (g : B → D)
    → ((a : A) (b : B) → K a b → L (f a) (g b))
    → (xs : List A) (ys : List B)
    → AllWith K xs ys
    → AllWith L (map f xs) (map g ys)
all_map K L f g h [] [] k = tt
all_map K L f g h [] (y ∷ ys) k = absurd k
all_map K L f g h (x ∷ xs) [] k = absurd k
all_map K L f g h (x ∷ xs) (y ∷ ys) k = (h x y k.0, all_map K L f g h xs ys k.1)

-- The first line is the second, or Unknown. The first place is the second, or lost; so is that behind a spot.
abbrev pub Kept : Line → Line → Type 0
Kept l m = (l ≡ m) ⊎ (is_unknown l ≡ true)

abbrev SamePlace : Place → Place → Type 0
SamePlace p q = (p ≡ q) ⊎ (p ≡ Lost)

abbrev SameSpot : Spot → Spot → Type 0
SameSpot x y = (x ≡ y) ⊎ (behind x ≡ Lost)

bit_lost : {at : ℕ} → Bit at ≡ Lost → ⊥
bit_lost e = let z : ◌≡◌ {A = ℕ} 0 1 = cc in omega arith

past_lost : Past ≡ Lost → ⊥
past_lost e = let z : ◌≡◌ {A = ℕ} 0 1 = cc in omega arith

-- Where items lie follows from the PRNs' rows alone.
module _ (rows rows' : ℕ → Option PrnRow) (w : (prn : ℕ) (row : PrnRow) → rows prn ≡ Some row → rows' prn ≡ Some row) (to : ℕ) where
  at_same : (o q : Option PrnRow) → ((row : PrnRow) → o ≡ Some row → q ≡ Some row) → (at : ℕ) → SameSpot (spot_at o to at) (spot_at q to at)
  unfolding spot_at
  at_same None q u at = inr refl
  at_same (Some row) q u at = inl (ap (λ (p : Option PrnRow). spot_at p to at) (sym (u row refl)))

  spot_same : (p q : Place) → SamePlace p q → (prn : ℕ) → SameSpot (spot_of rows to p prn) (spot_of rows' to q prn)
  unfolding spot_of
  spot_same (Bit at) q s prn =
      ⊎_elim
      (λ (e : Bit at ≡ q).
      subst (λ (r : Place). SameSpot (spot_of rows to (Bit at) prn) (spot_of rows' to r prn)) e (at_same (rows prn) (rows' prn) (w prn) at))
      (λ (e : Bit at ≡ Lost). absurd (bit_lost e)) s
  spot_same Lost q s prn = inr refl
  spot_same Past q s prn =
      ⊎_elim (λ (e : Past ≡ q). inl (ap (λ (r : Place). spot_of rows' to r prn) e)) (λ (e : Past ≡ Lost). absurd (past_lost e)) s

  spots_same : (prns : List ℕ) (p q : Place) → SamePlace p q → AllWith SameSpot (spots rows to p prns) (spots rows' to q prns)
  unfolding spots
  spots_same [] p q s = tt
  spots_same (prn ∷ prns) p q s =
      let same = spot_same p q s prn in
      (same, spots_same prns (behind (spot_of rows to p prn)) (behind (spot_of rows' to q prn)) (behind_same same))
    where
      behind_same : {x y : Spot} → SameSpot x y → SamePlace (behind x) (behind y)
      behind_same (inl e) = inl (ap behind e)
      behind_same (inr e) = inr e

after_same : (xs ys : List Spot) → AllWith SameSpot xs ys → (p q : Place) → SamePlace p q → SamePlace (place_after p xs) (place_after q ys)
unfolding place_after
after_same [] [] k p q s = s
after_same [] (y ∷ ys) k p q s = absurd k
after_same (x ∷ xs) [] k p q s = absurd k
after_same (x ∷ xs) (y ∷ ys) k p q s = after_same xs ys k.1 (behind x) (behind y) (⊎_elim (λ e. inl (ap behind e)) (λ e. inr e) k.0)

remainder_kept : (to : ℕ) (p q : Place) → SamePlace p q → Kept (remainder_at to p) (remainder_at to q)
unfolding remainder_at
remainder_kept to p q (inl e) = inl (ap (remainder_at to) e)
remainder_kept to p q (inr e) = inr (ap (λ (r : Place). is_unknown (remainder_at to r)) e)

-- The line of an item follows from its spot and its SLOT.
slot_kept :
    (o q : Option SlotRow)
    → ((r : SlotRow) → o ≡ Some r → q ≡ Some r)
    → (row : PrnRow) (bytes : List ℕ) (at : ℕ)
    → Kept (slot_line o row bytes at) (slot_line q row bytes at)
unfolding slot_line
slot_kept None q u row bytes at = inr refl
slot_kept (Some s) q u row bytes at = inl (ap (λ (p : Option SlotRow). slot_line p row bytes at) (sym (u s refl)))

module _
    (slots slots' : ℕ → ℕ → ℕ → Option SlotRow)
    (w : (f w n : ℕ) (row : SlotRow) → slots f w n ≡ Some row → slots' f w n ≡ Some row)
    (bytes : List ℕ)
  where
    lost_kept : (x y : Spot) → behind x ≡ Lost → Kept (item_line slots bytes x) (item_line slots' bytes y)
    unfolding item_line
    lost_kept Astray y e = inr refl
    lost_kept Beyond y e = absurd (past_lost e)
    lost_kept Rowless y e = inr refl
    lost_kept Over y e = absurd (past_lost e)
    lost_kept (Lies row at) y e = absurd (bit_lost e)

    there_kept : (x : Spot) → Kept (item_line slots bytes x) (item_line slots' bytes x)
    unfolding item_line
    there_kept Astray = inl refl
    there_kept Beyond = inl refl
    there_kept Rowless = inl refl
    there_kept Over = inl refl
    there_kept (Lies row at) = slot_kept _ _ (w row.form row.width row.slot) row bytes at

    item_kept : (x y : Spot) → SameSpot x y → Kept (item_line slots bytes x) (item_line slots' bytes y)
    item_kept x y (inl e) = subst (λ (z : Spot). Kept (item_line slots bytes x) (item_line slots' bytes z)) e (there_kept x)
    item_kept x y (inr e) = lost_kept x y e

-- A group under the smaller catalogue: its remainder kept, and its items kept, or none of them for want of a layout.
pub record GroupKept (g h : Group) : Type 0 where
  pub remainder : Kept g.remainder h.remainder
  pub items :
      (AllWith Kept g.items h.items × (g.layout ≡ None → ⊥))
      ⊎ ((g.items ≡ []) × (g.layout ≡ None) × (is_unknown g.remainder ≡ true))

-- Without a layout there is no item line, whatever part the group is read from.
pub group_gone : (c d : Catalogue) (q : Option LayoutRow) (p p' : Part) → GroupKept (group_of c None p) (group_of d q p')
unfolding group_of
group_gone c d q p p' = record { remainder = inr refl; items = inr (refl, refl, refl) }

pub group_kept :
    (c d : Catalogue)
    → Within c d
    → (o q : Option LayoutRow)
    → ((l : LayoutRow) → o ≡ Some l → q ≡ Some l)
    → (p : Part)
    → GroupKept (group_of c o p) (group_of d q p)
unfolding group_of
group_kept c d w None q u p = group_gone c d q p p
group_kept c d w (Some l) q u p =
    let same = spots_same c.prn d.prn w.prn p.to (p.prns l) (Bit p.from) (Bit p.from) (inl refl) in
    let after = after_same (spots_in c p l) (spots_in d p l) same (Bit p.from) (Bit p.from) (inl refl) in
    let lines = all_map SameSpot Kept _ _ (item_kept c.slot d.slot w.slot p.bytes) (spots_in c p l) (spots_in d p l) same in
    subst (λ (r : Option LayoutRow). GroupKept (group_of c (Some l) p) (group_of d r p)) (sym (u l refl))
    (record {
      remainder = remainder_kept p.to _ _ after;
      items = inl (lines, λ e. let z : ◌≡◌ {A = ℕ} 0 1 = cc in omega arith);
    })

-- So are all groups of a message, and of one whose parts lie otherwise where there is no layout.
pub groups_gone :
    (c d : Catalogue) (q : Option LayoutRow) (ps qs : List Part)
    → length ps ≡ length qs
    → AllWith GroupKept (map (group_of c None) ps) (map (group_of d q) qs)
groups_gone c d q [] [] e = tt
groups_gone c d q [] (p' ∷ qs) e = absurd (omega arith)
groups_gone c d q (p ∷ ps) [] e = absurd (omega arith)
groups_gone c d q (p ∷ ps) (p' ∷ qs) e = (group_gone c d q p p', groups_gone c d q ps qs (omega arith))

pub groups_kept :
    (c d : Catalogue)
    → Within c d
    → (o q : Option LayoutRow)
    → ((l : LayoutRow) → o ≡ Some l → q ≡ Some l)
    → (ps : List Part)
    → AllWith GroupKept (map (group_of c o) ps) (map (group_of d q) ps)
groups_kept c d w o q u [] = tt
groups_kept c d w o q u (p ∷ ps) = (group_kept c d w o q u p, groups_kept c d w o q u ps)
