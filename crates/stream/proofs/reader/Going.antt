-- Laws of a call's loop.
use Rattle.std.proofs.Common.{◌≡◌, ℕ, suc, ◌+◌, ◌<◌, ◌≤◌, true, false, cond, ◌⊎◌, ⊎_elim, List, length, get_or, take, drop, sym, refl, ap, ◌∙◌, subst}
use Rattle.std.proofs.Common.{add-one, arith, length-take, drop_of_length-le, drop-cons}
use Rattle.stream.specs.declared.state.StreamState.{StreamState}
use Rattle.stream.specs.Record.{kind_of, partial}
use Rattle.stream.specs.Stream.{place_behind}
use Rattle.stream.specs.Reader.{Position, Reached, with_byte, passed, is_telling, one_more, reach}
use Rattle.stream.specs.Inner.{is_open, is_to_tell, standing}
use Rattle.stream.proofs.state.Laws.{StandsAt}
use Rattle.stream.proofs.reader.Laws.{stands_on, telling_is, reach_none, reach_stopped, reach_tells, reach_on, passed_partial, passed_on}

-- What a call takes, and where its state stands, are what it reaches.
pub record Reaches (n : ℕ) (s : StreamState) (r : Reached) : Type 0 where
  pub taken : n ≡ r.taken
  pub stands : StandsAt s r.position

-- In a call's loop: what the whole part reaches is reached from here, so many bytes on; no whole record is held, and reading goes on.
abbrev pub further : ℕ → Reached → Reached
further i r = record { position = r.position; taken = i + r.taken }

pub record Going (p : Position) (part : List ℕ) (s : StreamState) (i : ℕ) : Type 0 where
  pub stands : StandsAt s (standing s)
  pub open_record : partial (standing s).begun ≡ true
  pub goes_on : s.stopped ≡ false
  pub reached : reach p part ≡ further i (reach (standing s) (drop i part))

-- Once reading has stopped nothing is taken.
pub stays :
    (s : StreamState) (part : List ℕ)
    → StandsAt s (standing s)
    → s.stopped ≡ true
    → Reaches 0 s (reach (standing s) part)
stays s part w e = subst (Reaches 0 s) (sym (reach_stopped (standing s) part e)) (record { taken = refl; stands = w })

pub going_begins :
    (s : StreamState) (part : List ℕ)
    → StandsAt s (standing s)
    → partial (standing s).begun ≡ true
    → s.stopped ≡ false
    → Going (standing s) part s 0
going_begins s part w o e =
    record {
      stands = w;
      open_record = o;
      goes_on = e;
      reached = let r = reach (standing s) part in (λ i. record { position = r.position; taken = zero_more r.taken i });
    }
  where
    zero_more : (n : ℕ) → n ≡ 0 + n
    zero_more n = omega arith

module _ {p : Position} {part : List ℕ} {s : StreamState} {i : ℕ} (g : Going p part s i) where
  pub going_ends : length part ≤ i → Reaches i s (reach p part)
  going_ends l =
      let none : reach p part ≡ further i (record { position = standing s; taken = 0 }) =
      g.reached ∙ ap (λ (u : List ℕ). further i (reach (standing s) u)) (drop_of_length-le part {i = i} l) ∙ ap (further i) (reach_none (standing s)) in
      subst (Reaches i s) (sym none) (record { taken = omega arith; stands = g.stands })

  module _ (l : i < length part) {s' : StreamState} (w : StandsAt s' (with_byte (standing s) (get_or part i 0))) where
    pub going_tells : is_telling (standing s') ≡ true → Reaches (i + 1) s' (reach p part)
    going_tells t =
        let b = get_or part i 0 in
        let told = ap is_telling (sym w.position) ∙ t in
        let there : reach p part ≡ further i (record { position = with_byte (standing s) b; taken = 1 }) =
        g.reached
        ∙ ap (λ (u : List ℕ). further i (reach (standing s) u)) (drop-cons part i 0 l)
        ∙ ap (further i) (reach_tells (standing s) b (drop (suc i) part) g.goes_on told) in
        subst (Reaches (i + 1) s') (sym there) (record { taken = refl; stands = w })

    pub going_on :
        {s'' : StreamState} → is_telling (standing s') ≡ false → StandsAt s'' (passed (standing s')) → Going p part s'' (i + 1)
    going_on {s''} t v =
        let b = get_or part i 0 in
        let q = with_byte (standing s) b in
        let not_told = ap is_telling (sym w.position) ∙ t in
        let here : standing s'' ≡ passed q = v.position ∙ ap passed w.position in
        record {
          stands = record { position = refl; room = v.room; within = v.within };
          open_record = subst (λ (x : Position). partial x.begun ≡ true) (sym here) (passed_partial q);
          goes_on = ap (λ (x : Position). x.stopped) here ∙ passed_on q not_told g.goes_on;
          reached =
              g.reached
              ∙ ap (λ (u : List ℕ). further i (reach (standing s) u)) (drop-cons part i 0 l)
              ∙ ap (further i) (reach_on (standing s) b (drop (suc i) part) g.goes_on not_told)
              ∙ one_on (reach (passed q) (drop (suc i) part))
              ∙ (λ k. further (i + 1) (reach (sym here k) (drop (sym (add-one i) k) part)));
        }
      where
        one_on : (r : Reached) → further i (one_more r) ≡ further (i + 1) r
        one_on r = (λ k. record { position = r.position; taken = moved r.taken k })
          where
            moved : (n : ℕ) → i + suc n ≡ i + 1 + n
            moved n = omega arith

-- One byte on where nothing is to be told, by value.
pub going_past :
    {p : Position} {part : List ℕ} {s : StreamState} {i : ℕ}
    → Going p part s i
    → i < length part
    → {s' : StreamState}
    → StandsAt s' (with_byte (standing s) (get_or part i 0))
    → false ≡ is_to_tell s'.count (kind_of s'.held)
    → {place count : ℕ}
    → place ≡ cond (is_open s'.count (kind_of s'.held)) s'.place (place_behind s'.place s'.count)
    → count ≡ cond (is_open s'.count (kind_of s'.held)) s'.count 0
    → Going p part (record { place = place; stopped = s'.stopped; count = count; held = s'.held }) (i + 1)
going_past g l {s'} w told e f =
    going_on g l w (sym (telling_is s' w.room) ∙ sym told)
    (stands_on s' w.room w.within (ap (λ (q : Position). q.stopped) w.position ∙ g.goes_on) told e f)

-- In the loop: still on its way through the part, or there from the beginning, where reading has stopped.
abbrev pub OnTheWay : Position → List ℕ → StreamState → ℕ → ℕ → Type 0
OnTheWay p part s i end = (Going p part s i × (end ≡ length part)) ⊎ (Reaches i s (reach p part) × (end ≡ i))

module _ {p : Position} {part : List ℕ} {s : StreamState} {i end : ℕ} (way : OnTheWay p part s i end) where
  pub way_goes : i < length (take end part) → Going p part s i × (end ≡ length part)
  way_goes l =
      let most = length-take end part in ⊎_elim (λ g. g) (λ there. absurd (let e = there.1 in omega (arith, l, e, most))) way

  pub way_ends : length (take end part) ≡ i → Reaches end s (reach p part)
  way_ends l =
      let most = length-take end part in
      ⊎_elim
      (λ (g : Going p part s i × (end ≡ length part)).
      let all : i ≡ end = omega (arith, l, g.1, most) in
      subst (λ (n : ℕ). Reaches n s (reach p part)) all (going_ends g.0 (omega (arith, all, g.1))))
      (λ (there : Reaches i s (reach p part) × (end ≡ i)). subst (λ (n : ℕ). Reaches n s (reach p part)) (sym there.1) there.0)
      way
