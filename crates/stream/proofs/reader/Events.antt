-- Laws of an event: the record that tells it, and where that stands.
use Rattle.std.specs.Option.{option_map}
use Rattle.std.proofs.Common.{◌≡◌, ℕ, Bool, true, false, List, length, sym, refl, ap, ◌∙◌, arith, Option, None, Some}
use Rattle.frame.specs.Frame.{Frame}
use Rattle.frame.specs.Refusal.{Outcome}
use Rattle.frame.proofs.bytes.Laws.{cases}
use Rattle.stream.specs.Record.{kind_of, whole_size, partial, tells}
use Rattle.stream.specs.Stream.{Event, place_behind, event_of}
use Rattle.stream.specs.Reader.{Position, with_byte, passed, event_at, reach, told, after}
use Rattle.stream.specs.Cuts.{size_told}
use Rattle.stream.proofs.record.Laws.{grown, size_frame, size_unknown, told_by}
use Rattle.stream.proofs.reader.Laws.{reach_keeps, passed_partial}

-- A test is not both, and nothing is not something.
not_both : {b : Bool} → b ≡ true → b ≡ false → ⊥
not_both t f = let both : true ≡ false = sym t ∙ f in let z : ◌≡◌ {A = ℕ} 0 1 = cc in omega arith

pub nothing_told : {e : Event} → None ≡ Some e → ⊥
nothing_told h = let z : ◌≡◌ {A = ℕ} 0 1 = cc in omega arith

pub record TellsThere (p : Position) (e : Event) : Type 0 where
  pub whole : partial p.begun ≡ false
  pub place : p.place ≡ e.place
  pub record_tells : tells p.begun ≡ Some e.told

pub event_is : (p : Position) (e : Event) → event_at p ≡ Some e → TellsThere p e
unfolding event_at
event_is p e h =
    cases (partial p.begun) (λ t. absurd (nothing_told (sym (rw t refl) ∙ h)))
    (λ t. let event : event_of p.place p.begun ≡ Some e = sym (rw t refl) ∙ h in go (tells p.begun) refl t event)
  where
    go :
        (o : Option (Outcome Frame))
        → tells p.begun ≡ o
        → partial p.begun ≡ false
        → option_map (λ (x : Outcome Frame). record { place = p.place; told = x }) o ≡ Some e
        → TellsThere p e
    go None u t h = absurd (nothing_told h)
    go (Some x) u t h =
        let same : record { place = p.place; told = x } ≡ e = cc in
        record { whole = t; place = ap (λ (y : Event). y.place) same; record_tells = u ∙ ap (λ (y : Event). Some y.told) same }

-- Where a call stops to tell, one record is held and nothing behind it.
one_record :
    (p : Position) (part : List ℕ)
    → partial p.begun ≡ true
    → partial (reach p part).position.begun ≡ false
    → let r = (reach p part).position.begun in length r ≡ whole_size (kind_of r)
one_record =
    reach_keeps
    (λ p part r.
    partial p.begun ≡ true → partial r.position.begun ≡ false → length r.position.begun ≡ whole_size (kind_of r.position.begun))
    (λ p part o w. absurd (not_both o w)) (λ p b part e t o w. grown p.begun b o w)
    (λ p b part r e t kept o. kept (passed_partial (with_byte p b)))

-- Its length, by what it tells.
size_told_lem : (r : List ℕ) (o : Outcome Frame) → tells r ≡ Some o → whole_size (kind_of r) ≡ size_told o
size_told_lem r o e =
    let k = kind_of r in
    told_by r o e (λ f w h. size_frame k f ∙ ap size_told h) (λ f h. size_frame k f ∙ ap size_told h) (λ f t h. size_unknown k f t ∙ ap size_told h)

-- The state that a call leaves stands right behind the record that it told of.
pub place_behind_told :
    (p : Position) (part : List ℕ) (e : Event)
    → partial p.begun ≡ true
    → told p part ≡ Some e
    → (after p part).place ≡ place_behind e.place (size_told e.told)
unfolding passed
place_behind_told p part e o h =
    let q = (reach p part).position in
    let there = event_is q e h in
    let size = one_record p part o there.whole ∙ size_told_lem q.begun e.told there.record_tells in
    rw there.whole (λ i. place_behind (there.place i) (size i))
