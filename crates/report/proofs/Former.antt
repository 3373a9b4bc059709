-- A supplement without kind 4 records whose layouts are as they were shows what document 01's rules showed.
use mathlib.Core.Path.{◌≡◌, refl, sym, ap, ◌∙◌}
use mathlib.Core.List.{List, [], ◌∷◌, ◌++◌, map}
use Rattle.std.proofs.Common.{Option, None, Some}
use Prim.Native.Nat.{ℕ, ◌*◌}
use native.Mathlib.Omega.{arith}
use borrow.Author.Tests.{ne_eqb}
use lib.ListN.{length, take, get_or}
use Rattle.frame.specs.Response.{kind_number}
use Rattle.frame.specs.Frame.{Parts}
use Rattle.catalogue.specs.Kind.{selector_kind}
use Rattle.catalogue.specs.Record.{LayoutRow, record_kind}
use Rattle.catalogue.specs.Supplement.{records_of, Stands, Accepted}
use Rattle.catalogue.specs.Lookup.{Catalogue, catalogue_of, catalogue, usual_length, layout_key}
use Rattle.catalogue.specs.Former.{former_key, grown, former_catalogue, AsFormer}
use Rattle.catalogue.proofs.former.Laws.{former_prn, former_slot, former_layout, usual_length_lem, former_forms, former_records}
use Rattle.report.specs.declared.spots.Place.TheVariants.{Bit}
use Rattle.report.specs.declared.spots.Spot.{Spot}
use Rattle.report.specs.Spots.{spots, place_after}
use Rattle.report.specs.Items.{item_line}
use Rattle.report.specs.Report.{Part, Message, Group, key_byte, key_target, data_part, message_with}
use Rattle.report.specs.Report.{remainder_at, group_of, response_line, report_of}
use Rattle.report.specs.Answer.{under}
use Rattle.report.specs.Former.{present, former_part, former_message, former_report, ShowsAsBefore}

-- "the old layout key is the new one with length and zero"
pub former_key_lem :
    (first target : ℕ) (body : List ℕ)
    → layout_key first target (take usual_length body) ≡ former_key first target (present body) (get_or body 0 0) ++ 0 ∷ []
unfolding present
former_key_lem first target [] = refl
former_key_lem first target (b ∷ body) = sym (rw (ne_eqb (length (b ∷ body)) 0 (λ e. omega arith)))

former_size_lem : (body : List ℕ) → length (take usual_length body) ≡ present body
unfolding present
former_size_lem [] = refl
former_size_lem (b ∷ body) = sym (rw (ne_eqb (length (b ∷ body)) 0 (λ e. omega arith)))

map_same : {A B : Type 0} (f g : A → B) → ((a : A) → f a ≡ g a) → (l : List A) → map f l ≡ map g l
map_same f g h [] = refl
map_same f g h (a ∷ l) = λ i. h a i ∷ map_same f g h l i

-- Lines follow from the PRNs and SLOTs that are found, and from the layout.
group_same :
    (c d : Catalogue) → c.prn ≡ d.prn → c.slot ≡ d.slot → (o : Option LayoutRow) (p : Part) → group_of c o p ≡ group_of d o p
unfolding group_of
group_same c d e f None p = refl
group_same c d e f (Some l) p =
    λ i.
    let there : List Spot = spots (e i) p.to (Bit p.from) (p.prns l) in
    record {
      part = p;
      layout = Some l;
      items = map (item_line (f i) p.bytes) there;
      remainder = remainder_at p.to (place_after (Bit p.from) there);
    }

report_same :
    (c d : Catalogue)
    → c.prn ≡ d.prn
    → c.slot ≡ d.slot
    → (m n : Message)
    → c.layout m.key ≡ d.layout n.key
    → m.parts ≡ n.parts
    → m.kind ≡ n.kind
    → report_of c m ≡ report_of d n
unfolding report_of
report_same c d e f m n layout parts kind =
    (λ i. record { groups = map (group_of c (layout i)) (parts i); response = response_line (kind i) })
    ∙ ap (λ (gs : List Group). record { groups = gs; response = response_line n.kind })
    (map_same (group_of c (d.layout n.key)) (group_of d (d.layout n.key)) (group_same c d e f (d.layout n.key)) n.parts)

-- Records of the former form, each layout with its zero, show what they showed, as long as none is of kind 4.
pub former_shown :
    (s : List ℕ) (former : List (List ℕ))
    → records_of s ≡ map grown former
    → ((r : List ℕ) → Stands r s → record_kind r ≡ selector_kind → ⊥)
    → (p : Parts)
    → under s p ≡ former_report former p
former_shown s former records none_of p =
    let first : ℕ = key_byte p.header in
    let target : ℕ = key_target p.header in
    let prn : (catalogue s).prn ≡ (former_catalogue former).prn =
    (λ i x. (ap (λ (qs : List (List ℕ)). (catalogue_of qs).prn x) records ∙ former_prn former x) i) in
    let slot : (catalogue s).slot ≡ (former_catalogue former).slot =
    (λ i x y z. (ap (λ (qs : List (List ℕ)). (catalogue_of qs).slot x y z) records ∙ former_slot former x y z) i) in
    let message : ℕ → Message = λ n. message_with p.header (take n p.body) p.body (kind_number p.kind) in
    let layout : (catalogue s).layout (message usual_length).key ≡ (former_catalogue former).layout (former_message p).key =
    ap (λ (qs : List (List ℕ)). (catalogue_of qs).layout (message usual_length).key) records
    ∙ ap (catalogue_of (map grown former)).layout (former_key_lem first target p.body)
    ∙ former_layout former first target (present p.body) (get_or p.body 0 0) in
    let part : data_part (take usual_length p.body) p.body ≡ former_part p.body =
    (λ i. record { bytes = p.body; from = 8 * former_size_lem p.body i; to = 8 * length p.body; prns = λ l. l.prns }) in
    ap (λ (n : ℕ). report_of (catalogue s) (message n)) (usual_length_lem (records_of s) none_of first target)
    ∙ report_same (catalogue s) (former_catalogue former) prn slot (message usual_length) (former_message p) layout (λ i. part i ∷ []) refl

-- "a supplement without kind 4 records, its layouts of length 1, shows what document 01's rules showed", and of length 0 as well.
pub as_before : (s : List ℕ) → Accepted s → AsFormer s → ShowsAsBefore s
as_before s a f =
    let own = former_records s a f in
    record {
      former = own.0;
      forms = former_forms s a f own.0 own.1;
      records = own.1;
      same = former_shown s own.0 own.1 f.selectors;
    }
