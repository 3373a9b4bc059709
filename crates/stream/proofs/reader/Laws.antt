-- Laws of a call: what its steps are by value.
use Rattle.std.proofs.Common.{◌≡◌, ℕ, ◌+◌, ◌<◌, ◌≤◌, Bool, true, false, cond, not, ◌&&◌, eqb, List, [], ◌∷◌, length, take, set, sym, refl, ap, ◌∙◌, None}
use Rattle.std.proofs.Common.{◌⊎◌, ⊎_elim, subst, add-one, arith, length-set, length-take-le, take-suc-set, ne_eqb, eqb-true}
use borrow.Author.Tests.{not-false, eqb-false}
use Rattle.stream.specs.declared.state.StreamState.{StreamState}
use Rattle.stream.specs.Record.{frame_record_size, tick_kind, kind_of, is_unknown_kind, partial}
use Rattle.stream.specs.Stream.{place_behind, event_of}
use Rattle.stream.specs.Reader.{Position, Reached, with_byte, passed, is_telling, event_at, one_more, reach, end_place, end_refusal}
use Rattle.stream.specs.Inner.{is_open, is_to_tell, standing}
use Rattle.frame.specs.Refusal.{no_refusal}
use Rattle.frame.proofs.bytes.Laws.{cases}
use Rattle.stream.specs.Refusal.{stream_cut}
use Rattle.stream.proofs.state.Laws.{StandsAt}
use Rattle.stream.proofs.record.Laws.{tick_known, kind_of_lem, no_bytes, partial_of, tells_tick}

module _ (s : StreamState) (room : length s.held ≡ frame_record_size) where
  -- A byte stored behind those held is one byte more.
  pub stands_more :
      (b : ℕ)
      → s.count < frame_record_size
      → StandsAt (record { place = s.place; stopped = s.stopped; count = s.count + 1; held = set s.held s.count b }) (with_byte (standing s) b)
  stands_more b l =
      record {
        position =
            ap (λ (u : List ℕ). record { place = s.place; stopped = s.stopped; begun = u })
            (ap (λ (n : ℕ). take n (set s.held s.count b)) (add-one s.count) ∙ take-suc-set s.held s.count b (omega (arith, room, l)));
        room = length-set s.held s.count b ∙ room;
        within = omega (arith, l);
      }

  open_held : (t : Bool) → t ≡ is_open s.count (kind_of s.held) → partial (take s.count s.held) ≡ t
  open_held t e = partial_of s.held s.count room ∙ sym e

  -- A partial record is not passed; a whole one is left behind.
  pub stands_partial : true ≡ is_open s.count (kind_of s.held) → s.count ≤ frame_record_size → StandsAt s (passed (standing s))
  unfolding passed
  stands_partial e l = record { position = rw (open_held true e); room = room; within = l }

  pub stands_behind :
      {t : Bool} {place : ℕ}
      → false ≡ is_open s.count (kind_of s.held)
      → s.count ≤ frame_record_size
      → place ≡ place_behind s.place s.count
      → t ≡ is_unknown_kind (kind_of s.held)
      → StandsAt (record { place = place; stopped = t; count = 0; held = s.held }) (passed (standing s))
  unfolding passed
  stands_behind e l p u =
      let size = length-take-le s.count s.held (omega (arith, room, l)) in
      let kind = kind_of_lem s.held s.count (open_held false e) in
      record {
        position =
            rw (open_held false e)
            (λ i.
            record {
              place = (p ∙ ap (place_behind s.place) (sym size)) i;
              stopped = (u ∙ ap is_unknown_kind (sym kind)) i;
              begun = [];
            });
        room = room;
        within = omega arith;
      }

  -- Both ways in one.
  pub stands_passed :
      {place count : ℕ} {t : Bool}
      → s.count ≤ frame_record_size
      → place ≡ cond (is_open s.count (kind_of s.held)) s.place (place_behind s.place s.count)
      → t ≡ cond (is_open s.count (kind_of s.held)) s.stopped (is_unknown_kind (kind_of s.held))
      → count ≡ cond (is_open s.count (kind_of s.held)) s.count 0
      → StandsAt (record { place = place; stopped = t; count = count; held = s.held }) (passed (standing s))
  stands_passed {place} {count} {t} l p u n =
      cases (is_open s.count (kind_of s.held))
      (λ e. moved s.place s.stopped s.count (p ∙ rw e refl) (u ∙ rw e refl) (n ∙ rw e refl) (stands_partial (sym e) l))
      (λ e.
      moved (place_behind s.place s.count) (is_unknown_kind (kind_of s.held)) 0 (p ∙ rw e refl) (u ∙ rw e refl) (n ∙ rw e refl)
      (stands_behind (sym e) l refl refl))
    where
      moved :
          (place' : ℕ) (t' : Bool) (count' : ℕ)
          → place ≡ place'
          → t ≡ t'
          → count ≡ count'
          → StandsAt (record { place = place'; stopped = t'; count = count'; held = s.held }) (passed (standing s))
          → StandsAt (record { place = place; stopped = t; count = count; held = s.held }) (passed (standing s))
      moved place' t' count' e f g w =
          record {
            position = (λ i. record { place = e i; stopped = f i; begun = take (g i) s.held }) ∙ w.position;
            room = room;
            within = omega (arith, g, w.within);
          }

  -- What is to be told, by the count and the first byte.
  pub telling_is : is_to_tell s.count (kind_of s.held) ≡ is_telling (standing s)
  unfolding is_telling
  telling_is =
      cases (is_open s.count (kind_of s.held)) (λ e. rw (e, open_held true (sym e)) refl)
      (λ e. rw (e, open_held false (sym e), kind_of_lem s.held s.count (open_held false (sym e))) refl)

  -- Where nothing is to be told, reading goes on in the record begun or, behind a tick, at the next.
  pub stands_on :
      {place count : ℕ}
      → s.count ≤ frame_record_size
      → s.stopped ≡ false
      → false ≡ is_to_tell s.count (kind_of s.held)
      → place ≡ cond (is_open s.count (kind_of s.held)) s.place (place_behind s.place s.count)
      → count ≡ cond (is_open s.count (kind_of s.held)) s.count 0
      → StandsAt (record { place = place; stopped = s.stopped; count = count; held = s.held }) (passed (standing s))
  stands_on l g t p n = stands_passed l p (g ∙ still (is_open s.count (kind_of s.held)) (sym t)) n
    where
      still :
          (o : Bool)
          → (not o && not (eqb (kind_of s.held) tick_kind)) ≡ false
          → false ≡ cond o s.stopped (is_unknown_kind (kind_of s.held))
      still true h = sym g
      still false h = sym (tick_known (kind_of s.held) (not-false (eqb (kind_of s.held) tick_kind) h))

-- What is reached: nothing behind the end or once reading has stopped; else byte by byte.
pub reach_none : (p : Position) → reach p [] ≡ record { position = p; taken = 0 }
unfolding reach
reach_none p = refl

pub reach_stopped : (p : Position) (s : List ℕ) → p.stopped ≡ true → reach p s ≡ record { position = p; taken = 0 }
unfolding reach
reach_stopped p [] e = refl
reach_stopped p (b ∷ s) e = rw e

pub reach_tells :
    (p : Position) (b : ℕ) (s : List ℕ)
    → p.stopped ≡ false
    → is_telling (with_byte p b) ≡ true
    → reach p (b ∷ s) ≡ record { position = with_byte p b; taken = 1 }
unfolding reach is_telling
reach_tells p b s e t = rw (e, t)

pub reach_on :
    (p : Position) (b : ℕ) (s : List ℕ)
    → p.stopped ≡ false
    → is_telling (with_byte p b) ≡ false
    → reach p (b ∷ s) ≡ one_more (reach (passed (with_byte p b)) s)
unfolding reach is_telling passed
reach_on p b s e t = rw (e, t)

-- So what is kept where a call stays, where it stops to tell, and where it goes on by a byte, holds of what it reaches.
pub reach_keeps :
    (P : Position → List ℕ → Reached → Type 0)
    → ((p : Position) (s : List ℕ) → P p s (record { position = p; taken = 0 }))
    → ((p : Position) (b : ℕ) (s : List ℕ)
    → p.stopped ≡ false
    → is_telling (with_byte p b) ≡ true
    → P p (b ∷ s) (record { position = with_byte p b; taken = 1 }))
    → ((p : Position) (b : ℕ) (s : List ℕ) (r : Reached)
    → p.stopped ≡ false
    → is_telling (with_byte p b) ≡ false
    → P (passed (with_byte p b)) s r
    → P p (b ∷ s) (one_more r))
    → (p : Position) (s : List ℕ)
    → P p s (reach p s)
reach_keeps P stays tells on p [] = subst (P p []) (sym (reach_none p)) (stays p [])
reach_keeps P stays tells on p (b ∷ s) =
    let q = passed (with_byte p b) in
    cases p.stopped (λ e. subst (P p (b ∷ s)) (sym (reach_stopped p (b ∷ s) e)) (stays p (b ∷ s)))
    (λ e.
    cases (is_telling (with_byte p b)) (λ t. subst (P p (b ∷ s)) (sym (reach_tells p b s e t)) (tells p b s e t))
    (λ t. subst (P p (b ∷ s)) (sym (reach_on p b s e t)) (on p b s (reach q s) e t (reach_keeps P stays tells on q s))))

-- Behind a record that is passed no whole one is held, and behind a tick reading goes on.
pub passed_partial : (p : Position) → partial (passed p).begun ≡ true
unfolding passed
passed_partial p = cases (partial p.begun) (λ e. rw e e) (λ e. rw e no_bytes)

pub passed_on : (p : Position) → is_telling p ≡ false → p.stopped ≡ false → (passed p).stopped ≡ false
unfolding passed is_telling
passed_on p t e =
    cases (partial p.begun) (λ q. rw q e)
    (λ q.
    let tick : eqb (kind_of p.begun) tick_kind ≡ true = not-false _ (sym (rw q refl) ∙ t) in
    rw q (tick_known (kind_of p.begun) tick))

-- Where nothing is telling there is no event; else the event is what the record tells.
pub not_told : (p : Position) → is_telling p ≡ false → event_at p ≡ None
unfolding is_telling event_at
not_told p t =
    cases (partial p.begun) (λ q. rw q refl)
    (λ q.
    let tick : eqb (kind_of p.begun) tick_kind ≡ true = not-false _ (sym (rw q refl) ∙ t) in
    rw (q, tells_tick p.begun (eqb-true _ _ tick)) refl)

pub telling : (p : Position) → is_telling p ≡ true → (partial p.begun ≡ false) × (kind_of p.begun ≡ tick_kind → ⊥)
unfolding is_telling
telling p t = go (partial p.begun) (eqb (kind_of p.begun) tick_kind) refl t
  where
    go :
        (a b : Bool)
        → eqb (kind_of p.begun) tick_kind ≡ b
        → (not a && not b) ≡ true
        → (a ≡ false) × (kind_of p.begun ≡ tick_kind → ⊥)
    go true b e t = absurd (let z : ◌≡◌ {A = ℕ} 0 1 = cc in omega arith)
    go false true e t = absurd (let z : ◌≡◌ {A = ℕ} 0 1 = cc in omega arith)
    go false false e t = (refl, eqb-false _ _ e)

pub is_told : (p : Position) → is_telling p ≡ true → event_at p ≡ event_of p.place p.begun
unfolding event_at
is_told p t = rw (telling p t).0 refl

-- The end of a stream in a state.
module _ {s : StreamState} {p : Position} (w : StandsAt s p) where
  stopped_there : s.stopped ≡ p.stopped
  stopped_there = ap (λ (q : Position). q.stopped) w.position

  count_there : s.count ≡ length p.begun
  count_there = sym (length-take-le s.count s.held (omega (arith, w.room, w.within))) ∙ ap (λ (q : Position). length q.begun) w.position

  pub end_none : (s.stopped ≡ true) ⊎ ((s.stopped ≡ false) × (s.count ≡ 0)) → no_refusal ≡ end_refusal p
  unfolding end_place
  end_none e =
      ⊎_elim (λ (t : s.stopped ≡ true). rw (sym stopped_there ∙ t) refl)
      (λ (z : (s.stopped ≡ false) × (s.count ≡ 0)). rw (sym stopped_there ∙ z.0, sym count_there ∙ z.1) refl) e

  pub end_begun : s.stopped ≡ false → (s.count ≡ 0 → ⊥) → stream_cut ≡ end_refusal p
  unfolding end_place
  end_begun e n = rw (sym stopped_there ∙ e, ne_eqb (length p.begun) 0 (λ z. n (count_there ∙ z))) refl
