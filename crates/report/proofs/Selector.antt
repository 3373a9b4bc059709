-- Items and selector together are the data.
use mathlib.Core.Path.{◌≡◌, refl, ap, ◌∙◌, subst}
use mathlib.Core.List.Memᴰ
use mathlib.Core.List.{List, [], ◌∷◌, ◌++◌, Memᴰ}
use Rattle.std.proofs.Common.{Option, None, Some}
use Prim.Native.Nat.{ℕ, zero, suc, ◌+◌, ◌-◌, ◌*◌}
use native.Mathlib.Omega.{arith}
use lib.ListN.{length, take, drop, length-take, length-drop}
use Rattle.frame.specs.Frame.{Parts}
use Rattle.catalogue.specs.Record.{LayoutRow}
use Rattle.catalogue.specs.Lookup.{Catalogue, length_for}
use Rattle.report.specs.Bits.{cut}
use Rattle.report.specs.Report.{Part, Group, key_byte, key_target, data_part, message_of, group_of, report_of}
use Rattle.report.specs.Left.{item_widths}
use Rattle.report.specs.Selector.{selector_in, after_selector, Divided, LeftBehind}
use Rattle.report.proofs.bits.Laws.{cut_behind}
use Rattle.report.proofs.Left.{left_accounted}

-- The first bytes, and what is behind as many as there are of them, are all.
taken_whole : (n : ℕ) (l : List ℕ) → take n l ++ drop (length (take n l)) l ≡ l
taken_whole zero l = refl
taken_whole (suc n) [] = refl
taken_whole (suc n) (b ∷ l) = ap (λ (r : List ℕ). b ∷ r) (taken_whole n l)

-- "items and selector together are the data"
pub divided : (c : Catalogue) (p : Parts) → Divided c p
divided c p =
    let n : ℕ = length_for c (key_byte p.header) (key_target p.header) in
    record {
      size = length-take n p.body;
      whole = taken_whole n p.body;
      items =
          λ at width.
          subst (λ (l : List ℕ). cut l (8 * length (selector_in c p) + at) width ≡ cut (after_selector c p) at width) (taken_whole n p.body)
          (cut_behind (selector_in c p) (after_selector c p) at width);
    }

part_of : (c : Catalogue) (o : Option LayoutRow) (p : Part) → (group_of c o p).part ≡ p
unfolding group_of
part_of c None p = refl
part_of c (Some l) p = refl

-- "item widths plus Left equal the bits after the selector, if no line is Short or lost"
pub left_behind :
    (c : Catalogue) (p : Parts) (l : LayoutRow)
    → c.layout (message_of c p).key ≡ Some l
    → (g : Group)
    → Memᴰ g (report_of c (message_of c p)).groups
    → LeftBehind c p l g
unfolding report_of
left_behind c p l e g m short lost =
    let body : List ℕ = p.body in
    let n : ℕ = length (selector_in c p) in
    let part : g.part ≡ data_part (selector_in c p) body = ap (λ (h : Group). h.part) (Memᴰ.eq_of_singleton m) ∙ part_of c _ _ in
    let left = (left_accounted c (message_of c p) l e g m).left short lost in
    let bits : item_widths c.prn l.prns + left.0 ≡ 8 * length body - 8 * n =
    subst (λ (q : Part). item_widths c.prn (q.prns l) + left.0 ≡ q.to - q.from) part left.2 in
    (left.0, left.1, omega (arith, bits, length-drop n body))
