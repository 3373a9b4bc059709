-- The group's lines and the response's are the report's.
use mathlib.Core.Path.{◌≡◌, sym, ap, ◌∙◌}
use mathlib.Core.List.{List, [], ◌∷◌, ◌++◌}
use Rattle.std.proofs.Common.{Option}
use Prim.Native.Nat.{ℕ, ◌+◌, ◌*◌, ◌≤◌}
use native.Mathlib.Omega.{arith}
use lib.ListN.{length, take}
use Rattle.frame.specs.Response.{kind_number}
use Rattle.catalogue.specs.Record.{LayoutRow, most_prns}
use Rattle.catalogue.specs.Supplement.{records_of}
use Rattle.catalogue.specs.Lookup.{catalogue, length_for, layout_key}
use Rattle.catalogue.proofs.lookup.Laws.{layout_sixteen}
use Rattle.report.specs.declared.line.Line.{Line}
use Rattle.report.specs.Report.{Part, key_byte, key_target, selector_of, message_from, group_of, group_lines}
use Rattle.report.proofs.message.Laws.{items_most, group_count, report_lines}
use Rattle.report.proofs.message.add_message.Goals as goal

-- lines behind none
alone : {all front lines : List Line} → all ≡ front ++ lines → front ≡ [] → all ≡ lines
alone {lines = lines} e none = e ∙ ap (λ (ls : List Line). ls ++ lines) none

-- A header, data and a response kind under a supplement; what the calls gave for its key, its selector and its layout.
module _
    (s header body : List ℕ) (kind first target : ℕ) (selector : List ℕ) (layout : Option LayoutRow)
    (by_first : first ≡ key_byte header) (by_target : target ≡ key_target header)
    (by_selector : selector ≡ take (length_for (catalogue s) first target) body)
    (by_layout : layout ≡ (catalogue s).layout (layout_key first target selector))
  where
    -- the selector is the one that the catalogue asks for
    selected : selector ≡ selector_of (catalogue s) header body
    selected = by_selector ∙ (λ i. take (length_for (catalogue s) (by_first i) (by_target i)) body)

    -- what the supplement has of the layout
    told : layout ≡ (catalogue s).layout (message_from (catalogue s) header body kind).key
    told = by_layout ∙ (λ i. (catalogue s).layout (layout_key (by_first i) (by_target i) (selected i)))

    -- the group is one of at most sixteen items, wherever it begins
    few :
        (from to : ℕ) {lines : List Line}
        → lines ≡ group_lines (group_of (catalogue s) layout (record { bytes = body; from = from; to = to; prns = λ l. l.prns }) ∷ [])
        → length lines ≤ most_prns + 1
    few from to e =
        let part : Part = record { bytes = body; from = from; to = to; prns = λ l. l.prns } in
        let sixteen = items_most (catalogue s) layout part most_prns (λ l h. layout_sixteen (records_of s) _ l (sym by_layout ∙ h)) in
        omega (arith, ap length e, group_count (catalogue s) layout part, sixteen)

pub push-requires : goal.push-requires
push-requires c =
    let s = c.args.supplement.now in
    let parts = c.args.parts in
    let most =
    few s.bytes.now parts.header.now parts.body.now (kind_number parts.kind) _ _ _ _ c.key_byte-first.ensures c.key_target-target.ensures
    c.selector_of-selector.ensures c.sought-layout.ensures _ _ (alone c.add_group.ensures c.requires) in
    omega arith

pub returns : goal.returns
returns c =
    let s = c.args.supplement.now in
    let parts = c.args.parts in
    let header = parts.header.now in
    let body = parts.body.now in
    let kind = kind_number parts.kind in
    let by_first = c.key_byte-first.ensures in
    let by_target = c.key_target-target.ensures in
    let by_selector = c.selector_of-selector.ensures in
    let layout = told s.bytes.now header body kind _ _ _ _ by_first by_target by_selector c.sought-layout.ensures in
    let selector = selected s.bytes.now header body kind _ _ _ _ by_first by_target by_selector c.sought-layout.ensures in
    c.push.ensures
    ∙ report_lines (catalogue s.bytes.now) header body kind _ _ c.add_group.new.lines c.response_line.result layout
    (ap (λ (l : List ℕ). 8 * length l) selector) (alone c.add_group.ensures c.requires) c.response_line.ensures
