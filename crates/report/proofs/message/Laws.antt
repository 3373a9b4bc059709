-- Laws of a message: its key, its lines, and how many they are.
use mathlib.Core.Path.{◌≡◌, refl, sym, ap, ◌∙◌}
use mathlib.Core.List.{List, [], ◌∷◌, ◌++◌, append-nil}
use Rattle.std.proofs.Common.{Option, None, Some}
use Prim.Native.Nat.{ℕ, ◌+◌, ◌*◌, ◌≤◌, ◌%◌}
use native.Mathlib.Omega.{arith}
use borrow.Author.Tests.{eq-eqb, ne_eqb}
use lib.Bits.{and_mask}
use Rattle.std.proofs.Common.{bit_and}
use lib.ListN.{length, get_or, length-append, length-map}
use Rattle.frame.specs.Header.{three_byte_form, header_size}
use Rattle.frame.proofs.header.Laws.{three_exactly}
use Rattle.catalogue.specs.Record.{LayoutRow}
use Rattle.catalogue.specs.Lookup.{Catalogue}
use Rattle.report.specs.declared.line.Line.{Line}
use Rattle.report.specs.declared.spots.Place.TheVariants.{Bit}
use Rattle.report.specs.Items.{item_line}
use Rattle.report.specs.Report.{Part, key_byte, key_target, selector_of, message_from}
use Rattle.report.specs.Report.{group_of, group_lines, spots_in, response_line, report_of, report_from, lines_of}
use Rattle.report.proofs.spots.Laws.{spots_length}

-- The key of a header of three bytes, and of one.
pub key_of_three : (h : List ℕ) → header_size h ≡ three_byte_form → (key_byte h ≡ get_or h 0 0 % 32) × (key_target h ≡ get_or h 1 0)
unfolding key_byte key_target
key_of_three h e = (rw (three_exactly h, eq-eqb (header_size h) three_byte_form e), rw (three_exactly h, eq-eqb (header_size h) three_byte_form e))

pub key_of_one : (h : List ℕ) → (header_size h ≡ three_byte_form → ⊥) → (key_byte h ≡ get_or h 0 0) × (key_target h ≡ 0)
unfolding key_byte key_target
key_of_one h e = (rw (three_exactly h, ne_eqb (header_size h) three_byte_form e), rw (three_exactly h, ne_eqb (header_size h) three_byte_form e))

-- As the code makes it.
pub key_byte_three : (h : List ℕ) {b : ℕ} → b ≡ get_or h 0 0 → header_size h ≡ three_byte_form → bit_and b 31 ≡ key_byte h
key_byte_three h {b} e f = and_mask b 5 ∙ ap (λ (c : ℕ). c % 32) e ∙ sym (key_of_three h f).0

pub key_byte_one : (h : List ℕ) → (header_size h ≡ three_byte_form → ⊥) → get_or h 0 0 ≡ key_byte h
key_byte_one h f = sym (key_of_one h f).0

pub key_target_three : (h : List ℕ) → header_size h ≡ three_byte_form → get_or h 1 0 ≡ key_target h
key_target_three h f = sym (key_of_three h f).1

pub key_target_one : (h : List ℕ) → (header_size h ≡ three_byte_form → ⊥) → 0 ≡ key_target h
key_target_one h f = sym (key_of_one h f).1

-- A group has as many items as its layout has PRNs.
pub items_most :
    (c : Catalogue) (o : Option LayoutRow) (p : Part) (n : ℕ)
    → ((l : LayoutRow) → o ≡ Some l → length (p.prns l) ≤ n)
    → length (group_of c o p).items ≤ n
unfolding group_of
items_most c None p n h = omega arith
items_most c (Some l) p n h =
    omega (
      arith,
      h l refl,
      length-map (spots_in c p l) (item_line c.slot p.bytes),
      spots_length c.prn p.to (p.prns l) (Bit p.from),
    )

-- The lines of one group: its items and its remainder.
pub group_count :
    (c : Catalogue) (o : Option LayoutRow) (p : Part) → length (group_lines (group_of c o p ∷ [])) ≡ length (group_of c o p).items + 1
unfolding group_lines
group_count c o p =
    let items : List Line = (group_of c o p).items in
    ap length (append-nil (items ++ (group_of c o p).remainder ∷ [])) ∙ length-append items ((group_of c o p).remainder ∷ [])

-- The lines of a report, from those of its group and its response.
pub report_lines :
    (c : Catalogue) (h b : List ℕ) (kind : ℕ) (o : Option LayoutRow) (from : ℕ) (ls : List Line) (r : Line)
    → o ≡ c.layout (message_from c h b kind).key
    → from ≡ 8 * length (selector_of c h b)
    → ls ≡ group_lines (group_of c o (record { bytes = b; from = from; to = 8 * length b; prns = λ l. l.prns }) ∷ [])
    → r ≡ response_line kind
    → ls ++ r ∷ [] ≡ lines_of (report_from c h b kind)
unfolding report_of lines_of
report_lines c h b kind o from ls r p q e f =
    λ i.
    (e ∙ (λ j. group_lines (group_of c (p j) (record { bytes = b; from = q j; to = 8 * length b; prns = λ l. l.prns }) ∷ []))) i ++ f i ∷ []
