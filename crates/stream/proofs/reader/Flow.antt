-- A stream byte by byte, from any position: what joins one call to the stream read at once.
use Rattle.std.proofs.Common.{◌≡◌, ℕ, zero, suc, ◌<◌, ◌≤◌, Bool, true, false, cond, List, [], ◌∷◌, ◌++◌, length, take, drop, sym, refl, ap, ◌∙◌, Option, None}
use Rattle.std.proofs.Common.{append-nil, not-suc-le-zero, arith, length-append, take_at, drop_at, le-ltb}
use lib.ListN.{get_or-append}
use lib.Seq.{append_snoc}
use Rattle.frame.proofs.bytes.Laws.{cases}
use Rattle.stream.specs.Record.{kind_of, is_unknown_kind, whole_size, partial}
use Rattle.stream.specs.Stream.{Event, place_behind, event_of, cut_at, Yield, nothing_more, listed, ahead, whole_from}
use Rattle.stream.specs.Reader.{Position, with_byte, passed, event_at, Reached, told, taken, after, end_place}
use Rattle.stream.proofs.record.Laws.{grown, no_bytes}
use Rattle.stream.proofs.reader.Laws.{reach_keeps, passed_partial, not_told}

unfoldable pub flow : Position → List ℕ → Yield
flow p [] = record { events = []; cut = end_place p }
flow p (b ∷ s) = cond p.stopped nothing_more (ahead (listed (event_at (with_byte p b))) (flow (passed (with_byte p b)) s))

pub flow_none : (p : Position) → flow p [] ≡ record { events = []; cut = end_place p }
unfolding flow
flow_none p = refl

-- Once reading has stopped nothing more is told, and the end is none.
pub flow_stopped : (p : Position) (s : List ℕ) → p.stopped ≡ true → flow p s ≡ record { events = []; cut = end_place p }
unfolding flow end_place
flow_stopped p [] e = refl
flow_stopped p (b ∷ s) e = rw e refl

flow_on :
    (p : Position) (b : ℕ) (s : List ℕ)
    → p.stopped ≡ false
    → flow p (b ∷ s) ≡ ahead (listed (event_at (with_byte p b))) (flow (passed (with_byte p b)) s)
unfolding flow event_at passed
flow_on p b s e = rw e refl

-- A partial record tells nothing and is not passed.
pub open_event : (p : Position) → partial p.begun ≡ true → event_at p ≡ None
unfolding event_at
open_event p o = rw o refl

pub open_passed : (p : Position) → partial p.begun ≡ true → passed p ≡ p
unfolding passed
open_passed p o = rw o refl

still : (p : Position) (s : List ℕ) → partial p.begun ≡ true → flow p s ≡ ahead (listed (event_at p)) (flow (passed p) s)
still p s o = sym (λ i. ahead (listed (open_event p o i)) (flow (open_passed p o i) s))

-- What is told where a call stops comes first; the rest is what is told behind it of the bytes not taken.
abbrev follows : Reached → List ℕ → List ℕ → Yield
follows r part later = ahead (listed (event_at r.position)) (flow (passed r.position) (drop r.taken part ++ later))

pub call_flow :
    (later : List ℕ) (p : Position) (part : List ℕ)
    → partial p.begun ≡ true
    → flow p (part ++ later) ≡ ahead (listed (told p part)) (flow (after p part) (drop (taken p part) part ++ later))
call_flow later =
    reach_keeps (λ p part r. partial p.begun ≡ true → flow p (part ++ later) ≡ follows r part later) (λ p part o. still p (part ++ later) o)
    (λ p b part e t o. flow_on p b (part ++ later) e)
    (λ p b part r e t kept o.
    let q = with_byte p b in
    flow_on p b (part ++ later) e
    ∙ ap (λ (x : Option Event). ahead (listed x) (flow (passed q) (part ++ later))) (not_told q t)
    ∙ kept (passed_partial q))

-- The stream read at once: what stands in a position and what follows, record by record.
whole_part : (n place : ℕ) (s : List ℕ) → partial s ≡ true → length s ≤ n → whole_from n place s ≡ record { events = []; cut = cut_at place s }
unfolding whole_from
whole_part zero place [] o l = refl
whole_part zero place (b ∷ s) o l = absurd (not-suc-le-zero l)
whole_part (suc n) place s o l = rw o refl

module _ (n place : ℕ) (r s : List ℕ) (size : length r ≡ whole_size (kind_of r)) (some_bytes : 0 < length r) where
  kind_same : kind_of (r ++ s) ≡ kind_of r
  kind_same = get_or-append r s 0 0 some_bytes

  all_of_it : partial (r ++ s) ≡ false
  unfolding partial
  all_of_it =
      le-ltb (length (r ++ s)) (whole_size (kind_of (r ++ s))) (omega (arith, length-append r s, size, ap whole_size kind_same))

  pub whole_record :
      whole_from (suc n) place (r ++ s)
      ≡ ahead (listed (event_of place r)) (cond (is_unknown_kind (kind_of r)) nothing_more (whole_from n (place_behind place (length r)) s))
  unfolding whole_from
  whole_record =
      let same : whole_size (kind_of (r ++ s)) ≡ length r = ap whole_size kind_same ∙ sym size in
      rw all_of_it
      (λ i.
      ahead (listed (event_of place ((ap (λ (k : ℕ). take k (r ++ s)) same ∙ take_at r s (length r) refl) i)))
      (cond (is_unknown_kind (kind_same i)) nothing_more
      (whole_from n (place_behind place (same i)) ((ap (λ (k : ℕ). drop k (r ++ s)) same ∙ drop_at r s (length r) refl) i))))

end_open : (p : Position) → p.stopped ≡ false → end_place p ≡ cut_at p.place p.begun
unfolding end_place
end_open p e = rw e refl

pub end_stopped : (p : Position) → p.stopped ≡ true → end_place p ≡ None
unfolding end_place
end_stopped p e = rw e refl

whole_event : (p : Position) → partial p.begun ≡ false → event_at p ≡ event_of p.place p.begun
unfolding event_at
whole_event p w = rw w refl

abbrev behind : Position → Position
behind p = record { place = place_behind p.place (length p.begun); stopped = is_unknown_kind (kind_of p.begun); begun = [] }

whole_passed : (p : Position) → partial p.begun ≡ false → passed p ≡ behind p
unfolding passed
whole_passed p w = rw w refl

pub whole_flow :
    (p : Position) (s : List ℕ) (n : ℕ)
    → partial p.begun ≡ true
    → p.stopped ≡ false
    → length (p.begun ++ s) ≤ n
    → flow p s ≡ whole_from n p.place (p.begun ++ s)
whole_flow p [] n o e l =
    let all = append-nil p.begun in
    let few : length p.begun ≤ n = omega (arith, l, ap length all) in
    flow_none p
    ∙ ap (λ (c : Option ℕ). record { events = []; cut = c }) (end_open p e)
    ∙ sym (ap (whole_from n p.place) all ∙ whole_part n p.place p.begun o few)
whole_flow p (b ∷ s) zero o e l = absurd (let z = length-append p.begun (b ∷ s) in omega (arith, l, z))
whole_flow p (b ∷ s) (suc m) o e l =
    let q = with_byte p b in
    let r = q.begun in
    let joined = append_snoc p.begun b s in
    cases (partial r)
    (λ t.
    flow_on p b s e
    ∙ sym (still q s t)
    ∙ whole_flow q s (suc m) t e (omega (arith, l, ap length joined))
    ∙ ap (whole_from (suc m) p.place) joined)
    (λ t.
    let size = grown p.begun b o t in
    let count = length-append p.begun (b ∷ []) in
    let few : length s ≤ m = omega (arith, l, ap length joined, length-append r s, count) in
    let x = behind q in
    let later = whole_from m x.place s in
    let rest : flow x s ≡ cond x.stopped nothing_more later =
    cases x.stopped
    (λ u.
    flow_stopped x s u
    ∙ ap (λ (c : Option ℕ). record { events = []; cut = c }) (end_stopped x u)
    ∙ ap (λ (y : Bool). cond y nothing_more later) (sym u))
    (λ u. whole_flow x s m no_bytes u few ∙ ap (λ (y : Bool). cond y nothing_more later) (sym u)) in
    flow_on p b s e
    ∙ (λ i. ahead (listed (whole_event q t i)) (flow (whole_passed q t i) s))
    ∙ ap (ahead (listed (event_of p.place r))) rest
    ∙ sym (whole_record m p.place r s size (omega (arith, count)))
    ∙ ap (whole_from (suc m) p.place) joined)
