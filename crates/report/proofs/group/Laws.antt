-- Laws of a group's lines as they are made: none, one more, and all of them with the remainder.
use mathlib.Core.Path.{◌≡◌, sym, ap, ◌∙◌}
use mathlib.Core.List.{List, [], ◌∷◌, ◌++◌, map, append_assoc, append-nil}
use Rattle.std.proofs.Common.{None, Some}
use Prim.Native.Nat.{ℕ, ◌+◌, ◌≤◌, ◌<◌}
use native.Mathlib.Omega.{arith}
use native.Mathlib.Numerals.{add-one}
use lib.ListN.{length, take, get_or, length-append, length-map}
use lib.Seq.{take-suc, take_all, length-take-le}
use Rattle.std.proofs.lemmas.List.{map-append}
use Rattle.catalogue.specs.Lookup.{Catalogue}
use Rattle.report.specs.declared.line.Line.{Line}
use Rattle.report.specs.declared.line.Line.TheVariants.{Unknown}
use Rattle.report.specs.Line.{no_layout_reason}
use Rattle.report.specs.declared.spots.Cursor.{Cursor}
use Rattle.report.specs.declared.spots.Place.TheVariants.{Bit}
use Rattle.report.specs.declared.spots.Spot.{Spot}
use Rattle.report.specs.Spots.{spot_of, behind, spots, place_after}
use Rattle.report.specs.Items.{item_line}
use Rattle.report.specs.Report.{Part, remainder_at, group_of, group_lines}
use Rattle.report.proofs.spots.Laws.{spots_snoc, spots_length, after_snoc}

-- The part of a message that is read.
module _ (c : Catalogue) (p : Part) where
  abbrev pub spots_of : List ℕ → List Spot
  spots_of prns = spots c.prn p.to (Bit p.from) prns

  abbrev pub items_of : List ℕ → List Line
  items_of prns = map (item_line c.slot p.bytes) (spots_of prns)

  -- Behind the lines `ls` stand those of the first i PRNs; the cursor is behind their items.
  pub record Filled (ls : List Line) (prns : List ℕ) (lines : List Line) (cursor : Cursor) (i : ℕ) : Type 0 where
    pub shows : lines ≡ ls ++ items_of (take i prns)
    pub moved : cursor.place ≡ place_after (Bit p.from) (spots_of (take i prns))
    pub ends : cursor.to ≡ p.to

  module _ (ls : List Line) (prns : List ℕ) (lines : List Line) (cursor : Cursor) (i : ℕ) (f : Filled ls prns lines cursor i) where
    -- as many lines more as PRNs
    pub filled_length : i ≤ length prns → length lines ≡ length ls + i
    filled_length h =
        omega (
          arith,
          ap length f.shows,
          length-append ls (items_of (take i prns)),
          length-map (spots_of (take i prns)) (item_line c.slot p.bytes),
          spots_length c.prn p.to (take i prns) (Bit p.from),
          length-take-le i prns h,
        )

    spots_more :
        {spot : Spot}
        → i < length prns
        → spot ≡ spot_of c.prn cursor.to cursor.place (get_or prns i 0)
        → spots_of (take (i + 1) prns) ≡ spots_of (take i prns) ++ spot ∷ []
    spots_more {spot} h e =
        let prn : ℕ = get_or prns i 0 in
        let there : spot ≡ spot_of c.prn p.to (place_after (Bit p.from) (spots_of (take i prns))) prn =
        e ∙ (λ j. spot_of c.prn (f.ends j) (f.moved j) prn) in
        ap (λ (k : ℕ). spots_of (take k prns)) (add-one i)
        ∙ ap spots_of (take-suc prns i 0 h)
        ∙ spots_snoc c.prn p.to (take i prns) prn (Bit p.from)
        ∙ ap (λ (s : Spot). spots_of (take i prns) ++ s ∷ []) (sym there)

    pub one_filled :
        (spot : Spot) (lines' : List Line) (cursor' : Cursor) {line : Line}
        → i < length prns
        → spot ≡ spot_of c.prn cursor.to cursor.place (get_or prns i 0)
        → line ≡ item_line c.slot p.bytes spot
        → lines' ≡ lines ++ line ∷ []
        → cursor'.place ≡ behind spot
        → cursor'.to ≡ cursor.to
        → Filled ls prns lines' cursor' (i + 1)
    one_filled spot lines' cursor' {line} h e g pushed b t =
        let more = spots_more h e in
        record {
          shows =
              pushed
              ∙ (λ j. f.shows j ++ g j ∷ [])
              ∙ append_assoc ls (items_of (take i prns)) (item_line c.slot p.bytes spot ∷ [])
              ∙ ap (λ (ks : List Line). ls ++ ks)
              (sym (ap (map (item_line c.slot p.bytes)) more ∙ map-append (item_line c.slot p.bytes) (spots_of (take i prns)) (spot ∷ [])));
          moved = b ∙ sym (ap (place_after (Bit p.from)) more ∙ after_snoc (spots_of (take i prns)) spot (Bit p.from));
          ends = t ∙ f.ends;
        }

    -- All of them, and what they leave.
    pub all_filled :
        (lines' : List Line) {rest : Line}
        → length prns ≤ i
        → rest ≡ remainder_at cursor.to cursor.place
        → lines' ≡ lines ++ rest ∷ []
        → lines' ≡ ls ++ group_lines (group_of c (Some (record { prns = prns })) (record p { prns = λ l. l.prns }) ∷ [])
    unfolding group_of group_lines
    all_filled lines' h e pushed =
        let all = take_all i prns h in
        pushed
        ∙ (λ j. (f.shows j) ++ (e ∙ (λ k. remainder_at (f.ends k) (f.moved k))) j ∷ [])
        ∙ append_assoc ls (items_of (take i prns)) _
        ∙ ap (λ (qs : List ℕ). ls ++ (items_of qs ++ remainder_at p.to (place_after (Bit p.from) (spots_of qs)) ∷ [])) all
        ∙ ap (λ (ks : List Line). ls ++ ks) (sym (append-nil _))

  -- Without a layout one line says so.
  pub none_found : (ls : List Line) {lines' : List Line} → lines' ≡ ls ++ Unknown no_layout_reason ∷ [] → lines' ≡ ls ++ group_lines (group_of c None p ∷ [])
  unfolding group_of group_lines
  none_found ls pushed = pushed

  pub none_filled : (ls : List Line) (prns : List ℕ) (cursor : Cursor) → cursor.place ≡ Bit p.from → cursor.to ≡ p.to → Filled ls prns ls cursor 0
  unfolding spots place_after
  none_filled ls prns cursor b t = record { shows = sym (append-nil ls); moved = b; ends = t }
