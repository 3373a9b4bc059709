-- The law of Left, for every group of every report.
use mathlib.Core.Path.{◌≡◌, refl, sym, ap, ◌∙◌, subst}
use mathlib.Core.Logic.{◌⊎◌, inl, inr, ⊎_elim}
use mathlib.Core.Bool.{Bool, true, false, cond}
use mathlib.Core.List.Memᴰ
use mathlib.Core.List.{List, [], ◌∷◌, map, Memᴰ}
use Rattle.std.proofs.Common.{Option, None, Some}
use Rattle.std.proofs.lemmas.Option.{none-some}
use Prim.Native.Nat.{ℕ, ◌+◌, ◌-◌, ◌≤◌}
use native.Mathlib.Omega.{arith}
use borrow.Author.Tests.{ltb-false}
use lib.Dec.{ltb}
use Rattle.frame.proofs.bytes.Laws.{cases}
use Rattle.catalogue.specs.declared.rows.PrnRow.{PrnRow}
use Rattle.catalogue.specs.declared.rows.SlotRow.{SlotRow}
use Rattle.catalogue.specs.Record.{LayoutRow}
use Rattle.catalogue.specs.Lookup.{Catalogue}
use Rattle.report.specs.declared.spots.Place.{Place}
use Rattle.report.specs.declared.spots.Place.TheVariants.{Bit, Lost, Past}
use Rattle.report.specs.declared.spots.Spot.{Spot}
use Rattle.report.specs.declared.spots.Spot.TheVariants.{Astray, Beyond, Rowless, Over, Lies}
use Rattle.report.specs.declared.line.Reason.{Reason}
use Rattle.report.specs.declared.line.Reason.TheVariants.{NoPrn, PlaceLost, NoSlot, NotShown, NoState, TooWide, DataResponse, NoLayout}
use Rattle.report.specs.declared.line.Line.{Line}
use Rattle.report.specs.declared.line.Line.TheVariants.{Number, State, Bits, Text, Digits, Invalid, Short, Unknown, Left, Answered}
use Rattle.report.specs.Line.{no_prn_reason, place_lost_reason}
use Rattle.report.specs.Scaling.{number_line}
use Rattle.report.specs.Spots.{spot_at, spot_of, behind, spots, place_after}
use Rattle.report.specs.Items.{slot_line, item_line}
use Rattle.report.specs.Report.{Part, Message, Group, remainder_at, group_of, report_of}
use Rattle.report.specs.Left.{width_of, item_widths, ShowsShort, ShowsLost, Accounted}
use Rattle.report.proofs.scaling.Laws.{form_among}

-- A reason that loses the place.
abbrev loses : Reason → Bool
loses NoPrn = true
loses PlaceLost = true
loses NoSlot = false
loses NotShown = false
loses NoState = false
loses TooWide = false
loses DataResponse = false
loses NoLayout = false

-- Where a line that is Short or lost leaves the place.
abbrev stop : Line → Option Place
stop (Number x n d) = None
stop (State n) = None
stop (Bits n) = None
stop (Text n) = None
stop (Digits n) = None
stop (Invalid n) = None
stop Short = Some Past
stop (Unknown n) = cond (loses n) (Some Lost) None
stop (Left n) = None
stop (Answered n) = None

-- An item that is cut out does not stop the place.
slot_goes_on : (o : Option SlotRow) (row : PrnRow) (bytes : List ℕ) (at : ℕ) → stop (slot_line o row bytes at) ≡ None
unfolding slot_line number_line
slot_goes_on None row bytes at = refl
slot_goes_on (Some slot) row bytes at =
    form_among (λ (l : Line). stop l ≡ None) row.form row.width slot _ (λ _. refl) refl refl refl refl refl refl refl refl

module _ (slots : ℕ → ℕ → ℕ → Option SlotRow) (bytes : List ℕ) where
  item_stops : (spot : Spot) (q : Place) → stop (item_line slots bytes spot) ≡ Some q → behind spot ≡ q
  unfolding item_line
  item_stops Astray q e = cc
  item_stops Beyond q e = cc
  item_stops Rowless q e = cc
  item_stops Over q e = cc
  item_stops (Lies row at) q e = absurd (none-some q (sym (slot_goes_on _ row bytes at) ∙ e))

  module _ (rows : ℕ → Option PrnRow) (to : ℕ) where
    -- The lines of some PRNs from a place on, and the place behind them.
    abbrev lines_from : Place → List ℕ → List Line
    lines_from p prns = map (item_line slots bytes) (spots rows to p prns)

    abbrev place_from : Place → List ℕ → Place
    place_from p prns = place_after p (spots rows to p prns)

    -- Once lost or past the data, the place stays so.
    stays : (q : Place) → ((prn : ℕ) → behind (spot_of rows to q prn) ≡ q) → (prns : List ℕ) → place_from q prns ≡ q
    unfolding spots place_after
    stays q u [] = refl
    stays q u (prn ∷ prns) = ap (λ (r : Place). place_from r prns) (u prn) ∙ stays q u prns

    lines_stop :
        (prns : List ℕ) (p : Place) (l : Line) (q : Place)
        → ((prn : ℕ) → behind (spot_of rows to q prn) ≡ q)
        → stop l ≡ Some q
        → Memᴰ l (lines_from p prns)
        → place_from p prns ≡ q
    unfolding spots place_after
    lines_stop [] p l q u e m = absurd (Memᴰ.not-nil m)
    lines_stop (prn ∷ prns) p l q u e m =
        let spot : Spot = spot_of rows to p prn in
        ⊎_elim
        (λ (h : l ≡ item_line slots bytes spot).
        ap (λ (r : Place). place_from r prns) (item_stops spot q (sym (ap stop h) ∙ e)) ∙ stays q u prns)
        (λ (t : Memᴰ l (lines_from (behind spot) prns)). lines_stop prns (behind spot) l q u e t)
        (Memᴰ.cases_cons m)

    -- A line that is neither Short nor lost moves the place by its item's width, and not past the window.
    spot_moves :
        (o : Option PrnRow) (at : ℕ)
        → (Short ≡ item_line slots bytes (spot_at o to at) → ⊥)
        → (Unknown no_prn_reason ≡ item_line slots bytes (spot_at o to at) → ⊥)
        → (behind (spot_at o to at) ≡ Bit (at + width_of o)) × (at + width_of o ≤ to)
    unfolding spot_at item_line width_of
    spot_moves None at s u = absurd (u refl)
    spot_moves (Some row) at s u =
        cases (ltb to (at + row.width)) (λ t. absurd (s (rw t))) (λ f. (rw f, ltb-false to (at + row.width) f))

    all_move :
        (prns : List ℕ) (at : ℕ)
        → (ShowsShort (lines_from (Bit at) prns) → ⊥)
        → (ShowsLost (lines_from (Bit at) prns) → ⊥)
        → (place_from (Bit at) prns ≡ Bit (at + item_widths rows prns)) × ((item_widths rows prns ≡ 0) ⊎ (at + item_widths rows prns ≤ to))
    unfolding spots spot_of place_after item_widths
    all_move [] at s u = (ap Bit (omega arith), inl refl)
    all_move (prn ∷ prns) at s u =
        let w : ℕ = width_of (rows prn) in
        let moved = spot_moves (rows prn) at (λ e. s (Memᴰ.head e)) (λ e. u (inl (Memᴰ.head e))) in
        let short : ShowsShort (lines_from (Bit (at + w)) prns) → ⊥ =
        λ m. s (Memᴰ.tail (subst (λ (r : Place). ShowsShort (lines_from r prns)) (sym moved.0) m)) in
        let lost : ShowsLost (lines_from (Bit (at + w)) prns) → ⊥ =
        λ m. u (later (subst (λ (r : Place). ShowsLost (lines_from r prns)) (sym moved.0) m)) in
        let rest = all_move prns (at + w) short lost in (
          ap (λ (r : Place). place_from r prns) moved.0 ∙ rest.0 ∙ ap Bit (omega arith),
          inr (⊎_elim (λ z. omega (arith, z, moved.1)) (λ z. omega (arith, z)) rest.1),
        )
      where
        later : {l : Line} {ls : List Line} → ShowsLost ls → ShowsLost (l ∷ ls)
        later (inl m) = inl (Memᴰ.tail m)
        later (inr m) = inr (Memᴰ.tail m)

-- The law for a group whose layout was found.
group_accounted : (c : Catalogue) (p : Part) (l : LayoutRow) → Accounted c l (group_of c (Some l) p)
unfolding group_of remainder_at spot_of
group_accounted c p l =
    let prns : List ℕ = p.prns l in
    let stops = lines_stop c.slot p.bytes c.prn p.to prns (Bit p.from) in
    record {
      left =
          λ s u.
          let moved = all_move c.slot p.bytes c.prn p.to prns p.from s u in
          let w : ℕ = item_widths c.prn prns in (
            p.to - (p.from + w),
            ap (remainder_at p.to) moved.0,
            ⊎_elim (λ z. omega (arith, z)) (λ z. omega (arith, z)) moved.1,
          );
      lost =
          λ m.
          ap (remainder_at p.to)
          (⊎_elim (stops (Unknown no_prn_reason) Lost (λ prn. refl) refl) (stops (Unknown place_lost_reason) Lost (λ prn. refl) refl) m);
      short = λ m. ap (remainder_at p.to) (stops Short Past (λ prn. refl) refl m);
    }

groups_accounted : (c : Catalogue) (l : LayoutRow) (ps : List Part) (g : Group) → Memᴰ g (map (group_of c (Some l)) ps) → Accounted c l g
groups_accounted c l [] g m = absurd (Memᴰ.not-nil m)
groups_accounted c l (p ∷ ps) g m =
    ⊎_elim (λ (e : g ≡ group_of c (Some l) p). subst (Accounted c l) (sym e) (group_accounted c p l))
    (λ (t : Memᴰ g (map (group_of c (Some l)) ps)). groups_accounted c l ps g t)
    (Memᴰ.cases_cons m)

-- "item widths plus Left equal the bits after the selector, if no line is Short or lost": every group of a report whose layout was found.
pub left_accounted :
    (c : Catalogue) (m : Message) (l : LayoutRow)
    → c.layout m.key ≡ Some l
    → (g : Group)
    → Memᴰ g (report_of c m).groups
    → Accounted c l g
unfolding report_of
left_accounted c m l e g i =
    groups_accounted c l m.parts g (subst (λ (o : Option LayoutRow). Memᴰ g (map (group_of c o) m.parts)) e i)
