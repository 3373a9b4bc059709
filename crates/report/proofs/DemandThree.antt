-- Demand 3, proved for every accepted frame and every two accepted supplements that keep its premise.
use mathlib.Core.Path.{◌≡◌, refl, sym, ap, ◌∙◌, subst}
use mathlib.Core.Logic.{◌↔◌, ◌⊎◌, inl, inr, ⊎_elim}
use mathlib.Core.Bool.{true, false, true≢false}
use mathlib.Core.List.{List, [], ◌∷◌, map}
use Rattle.std.proofs.Common.{Option, None, Some, slice_get}
use Rattle.std.proofs.lemmas.Option.{none-some}
use Prim.Native.Nat.{ℕ, zero, suc}
use native.Mathlib.Omega.{arith}
use lib.ListN.{length, take}
use Rattle.frame.specs.Response.{kind_number}
use Rattle.frame.specs.Frame.{Parts}
use Rattle.catalogue.specs.Record.{LayoutRow, FullKey}
use Rattle.catalogue.specs.Supplement.{records_of, Accepted, Among, NoNewSelector}
use Rattle.catalogue.specs.Lookup.{Catalogue, Within, catalogue, length_for}
use Rattle.catalogue.proofs.lookup.Laws.{layout_key_full}
use Rattle.catalogue.proofs.Accepted.{good}
use Rattle.catalogue.proofs.Within.{supplement_within, lengths_alike}
use Rattle.report.specs.declared.line.Line.{Line}
use Rattle.report.specs.Line.{is_unknown}
use Rattle.report.specs.Report.{Part, Message, Group, Report, key_byte, key_target, selector_of, message_with, message_of}
use Rattle.report.specs.Report.{group_of, group_lines, response_line, report_of, lines_of, verdict}
use Rattle.report.specs.Rows.{row}
use Rattle.report.specs.Answer.{under}
use Rattle.report.specs.Demand.{Name, item, remainder, response, item_in, remainder_in, layout_in, line_at, Lacks, Alike, Keeps}
use Rattle.report.proofs.demand.Kept.{AllWith, Kept, GroupKept, groups_kept, groups_gone}
use Rattle.report.proofs.demand.Covered.{Covered, covered_append, covered_same, groups_covered, verdict_clear_lem, verdict_flagged_lem}

some_is : {A : Type 0} {a b : A} → Some a ≡ Some b → a ≡ b
some_is e = cc

-- A line of the first report against its namesake of the second: both, the first kept; neither; or the second alone, where it may be.
abbrev Against : Type 0 → Option Line → Option Line → Type 0
Against gone None None = Unit {0}
Against gone None (Some l) = gone
Against gone (Some k) None = ⊥
Against gone (Some k) (Some l) = Kept k l × (gone → ⊥)

module _ (gone : Type 0) where
  shown_same : (o q : Option Line) → Against gone o q → (l : Line) → o ≡ Some l → is_unknown l ≡ false → q ≡ Some l
  shown_same None q a l e u = absurd (none-some _ e)
  shown_same (Some k) None a l e u = absurd a
  shown_same (Some k) (Some m) a l e u =
      let h : k ≡ l = some_is e in
      ⊎_elim (λ g. ap Some (sym g ∙ h)) (λ v. absurd (true≢false (sym v ∙ ap is_unknown h ∙ u))) a.0

  taken_from :
      (o q : Option Line)
      → Against gone o q
      → (l : Line)
      → q ≡ Some l
      → (o ≡ Some l) ⊎ (((k : Line) × (o ≡ Some k) × (is_unknown k ≡ true)) ⊎ (o ≡ None))
  taken_from None q a l e = inr (inr refl)
  taken_from (Some k) None a l e = absurd a
  taken_from (Some k) (Some m) a l e = ⊎_elim (λ g. inl (ap Some g ∙ e)) (λ v. inr (inl (k, refl, v))) a.0

  missing_when : (o q : Option Line) → Against gone o q → (l : Line) → q ≡ Some l → (o ≡ None) ↔ gone
  missing_when None None a l e = absurd (none-some _ e)
  missing_when None (Some m) a l e = (λ h. a, λ g. refl)
  missing_when (Some k) None a l e = absurd a
  missing_when (Some k) (Some m) a l e = (λ h. absurd (none-some _ (sym h)), λ g. absurd (a.1 g))

  -- Items that are kept one by one, and items that are gone.
  items_against : (gone → ⊥) → (ls ms : List Line) → AllWith Kept ls ms → (i : ℕ) → Against gone (slice_get ls i) (slice_get ms i)
  items_against n [] [] k i = tt
  items_against n [] (m ∷ ms) k i = absurd k
  items_against n (l ∷ ls) [] k i = absurd k
  items_against n (l ∷ ls) (m ∷ ms) k zero = (k.0, n)
  items_against n (l ∷ ls) (m ∷ ms) k (suc i) = items_against n ls ms k.1 i

  gone_against : gone → (q : Option Line) → Against gone None q
  gone_against g None = tt
  gone_against g (Some l) = g

-- Two groups of the same number: both, the first kept; or neither.
abbrev GroupsAt : Option Group → Option Group → Type 0
GroupsAt None None = Unit {0}
GroupsAt None (Some h) = ⊥
GroupsAt (Some g) None = ⊥
GroupsAt (Some g) (Some h) = GroupKept g h

groups_at : (gs hs : List Group) → AllWith GroupKept gs hs → (n : ℕ) → GroupsAt (slice_get gs n) (slice_get hs n)
groups_at [] [] k n = tt
groups_at [] (h ∷ hs) k n = absurd k
groups_at (g ∷ gs) [] k n = absurd k
groups_at (g ∷ gs) (h ∷ hs) k zero = k.0
groups_at (g ∷ gs) (h ∷ hs) k (suc n) = groups_at gs hs k.1 n

item_against : (a b : Option Group) → GroupsAt a b → (i : ℕ) → Against (layout_in a ≡ None) (item_in a i) (item_in b i)
unfolding layout_in item_in
item_against None None k i = tt
item_against None (Some h) k i = absurd k
item_against (Some g) None k i = absurd k
item_against (Some g) (Some h) k i =
    ⊎_elim (λ a. items_against (g.layout ≡ None) a.1 g.items h.items a.0 i)
    (λ a.
    subst (λ (ls : List Line). Against (g.layout ≡ None) (slice_get ls i) (slice_get h.items i)) (sym a.0)
    (gone_against (g.layout ≡ None) a.1 (slice_get h.items i)))
    k.items

remainder_against : (a b : Option Group) → GroupsAt a b → Against ⊥ (remainder_in a) (remainder_in b)
unfolding remainder_in
remainder_against None None k = tt
remainder_against None (Some h) k = absurd k
remainder_against (Some g) None k = absurd k
remainder_against (Some g) (Some h) k = (k.remainder, λ e. e)

-- Two reports whose groups are kept and whose response is the same.
module _ (old new : Report) (kept : AllWith GroupKept old.groups new.groups) (same : old.response ≡ new.response) where
  against : (n : Name) → Against (Lacks old n) (line_at old n) (line_at new n)
  unfolding line_at Lacks
  against (item g i) = item_against _ _ (groups_at old.groups new.groups kept g) i
  against (remainder g) = remainder_against _ _ (groups_at old.groups new.groups kept g)
  against response = (inl same, λ e. e)

  covered : Covered (lines_of old) (lines_of new)
  unfolding lines_of
  covered =
      covered_append (group_lines old.groups) (group_lines new.groups) (old.response ∷ []) (new.response ∷ [])
      (groups_covered old.groups new.groups kept)
      (subst (λ (l : Line). Covered (old.response ∷ []) (l ∷ [])) same (covered_same (old.response ∷ [])))

  reports_keep : Keeps old new
  unfolding verdict
  reports_keep =
      let shown : (n : Name) (l : Line) → line_at old n ≡ Some l → is_unknown l ≡ false → line_at new n ≡ Some l =
      λ n. shown_same (Lacks old n) (line_at old n) (line_at new n) (against n) in
      record {
        shown = shown;
        clear = verdict_clear_lem _ _ covered;
        flagged = verdict_flagged_lem _ _ covered;
        taken = λ n. taken_from (Lacks old n) (line_at old n) (line_at new n) (against n);
        missing = λ n. missing_when (Lacks old n) (line_at old n) (line_at new n) (against n);
        not_clear = λ n e. n (verdict_clear_lem _ _ covered e);
        rows = λ n l k e u f. ap row (some_is (sym (shown n l e u) ∙ f));
      }

-- What `Lacks` says of an item line that the second report has: the first catalogue lacks the layout.
lacks_at :
    (c d : Catalogue) (o q : Option LayoutRow) (ps qs : List Part)
    → length ps ≡ length qs
    → (g i : ℕ) (l : Line)
    → item_in (slice_get (map (group_of d q) qs) g) i ≡ Some l
    → (layout_in (slice_get (map (group_of c o) ps) g) ≡ None) ↔ (o ≡ None)
unfolding item_in layout_in group_of
lacks_at c d o q [] [] s g i l e = absurd (none-some _ e)
lacks_at c d o q [] (p' ∷ qs) s g i l e = absurd (omega arith)
lacks_at c d o q (p ∷ ps) [] s g i l e = absurd (none-some _ e)
lacks_at c d None q (p ∷ ps) (p' ∷ qs) s zero i l e = (λ h. refl, λ h. refl)
lacks_at c d (Some k) q (p ∷ ps) (p' ∷ qs) s zero i l e = (λ h. absurd (none-some _ (sym h)), λ h. absurd (none-some _ (sym h)))
lacks_at c d o q (p ∷ ps) (p' ∷ qs) s (suc g) i l e = lacks_at c d o q ps qs (omega arith) g i l e

lacks_own :
    (c d : Catalogue) (m n : Message)
    → length m.parts ≡ length n.parts
    → (g i : ℕ) (l : Line)
    → line_at (report_of d n) (item g i) ≡ Some l
    → Lacks (report_of c m) (item g i) ↔ (c.layout m.key ≡ None)
unfolding line_at Lacks report_of
lacks_own c d m n s g i l e = lacks_at c d (c.layout m.key) (d.layout n.key) m.parts n.parts s g i l e

-- "the first supplement lacks the layout that the second report uses": that of the second message.
pub lacks_exactly :
    (c d : Catalogue) (m n : Message)
    → Alike c m n
    → (g i : ℕ) (l : Line)
    → line_at (report_of d n) (item g i) ≡ Some l
    → Lacks (report_of c m) (item g i) ↔ (c.layout n.key ≡ None)
lacks_exactly c d m n (inl same) g i l e =
    subst (λ (x : Message). Lacks (report_of c m) (item g i) ↔ (c.layout x.key ≡ None)) same
    (lacks_own c d m n (ap (λ (x : Message). length x.parts) same) g i l e)
lacks_exactly c d m n (inr a) g i l e = (λ h. a.other, λ h. (lacks_own c d m n a.parts g i l e).1 a.own)

-- Demand 3 for a frame's messages under two catalogues, whatever the first finds the second finding the same.
pub keeps : (c d : Catalogue) → Within c d → (m n : Message) → FullKey m.key → Alike c m n → Keeps (report_of c m) (report_of d n)
unfolding report_of
keeps c d w m n full (inl same) =
    subst (λ (x : Message). Keeps (report_of c m) (report_of d x)) same
    (reports_keep (report_of c m) (report_of d m) (groups_kept c d w (c.layout m.key) (d.layout m.key) (w.layout m.key full) m.parts) refl)
keeps c d w m n full (inr a) =
    reports_keep (report_of c m) (report_of d n)
    (subst (λ (o : Option LayoutRow). AllWith GroupKept (map (group_of c o) m.parts) (map (group_of d (d.layout n.key)) n.parts)) (sym a.own)
    (groups_gone c d (d.layout n.key) m.parts n.parts a.parts))
    (ap response_line a.kind)

-- Under the premise a header's selector has one length in both supplements, or the first has no layout for it.
pub messages_alike :
    (p : Parts) (s t : List ℕ)
    → Accepted t
    → Among s t
    → NoNewSelector (records_of s) (records_of t)
    → Alike (catalogue s) (message_of (catalogue s) p) (message_of (catalogue t) p)
messages_alike p s t b among kept =
    let first : ℕ = key_byte p.header in
    let target : ℕ = key_target p.header in
    let with : ℕ → Message = λ n. message_with p.header (take n p.body) p.body (kind_number p.kind) in
    ⊎_elim (λ e. inl (ap with e))
    (λ none-for.
    inr
    (record {
      own = none-for (take (length_for (catalogue s) first target) p.body);
      other = none-for (take (length_for (catalogue t) first target) p.body);
      parts = refl;
      kind = refl;
    }))
    (lengths_alike (records_of s) (records_of t) (good t b).keys among kept first target)

-- "Take any accepted frame and two accepted supplements, every record of the first standing in the second too.", under the premise: "the
-- second supplement has no kind 4 record for any header for which the first has a layout, except those that the first has too".
pub demand_three :
    (p : Parts) (s t : List ℕ)
    → Accepted s
    → Accepted t
    → Among s t
    → NoNewSelector (records_of s) (records_of t)
    → Keeps (under s p) (under t p)
demand_three p s t a b among kept =
    let key = layout_key_full (key_byte p.header) (key_target p.header) (selector_of (catalogue s) p.header p.body) in
    keeps (catalogue s) (catalogue t) (supplement_within s t b among) _ _ key (messages_alike p s t b among kept)
