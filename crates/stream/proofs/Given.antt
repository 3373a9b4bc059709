-- What holds of every frame that the reader of a stream gives.
use Rattle.std.specs.Option.{option_map}
use Rattle.std.proofs.Common.{◌≡◌, ℕ, ◌+◌, ◌≤◌, Bool, true, false, cond, ◌||◌, eqb, ltb, List, length, drop, sym, refl, ◌∙◌, subst, arith, Option, None, Some}
use Rattle.std.proofs.Common.{length-take, ltb-true, le-ltb}
use Rattle.frame.specs.Frame.{Frame, frame_size, most_bytes}
use Rattle.frame.specs.Refusal.{Outcome, refused, accepted, outcome, no_refusal, too_long, output_short}
use Rattle.stream.specs.Record.{first_length, second_length, runs_at, runs_in, tells}
use Rattle.stream.specs.Stream.{Event}
use Rattle.stream.specs.Reader.{Position, event_at, outgrows, within, told_within, told, reach}
use Rattle.stream.specs.Calls.{is_short}
use Rattle.frame.specs.Count.{count_rules}
use Rattle.frame.specs.Reader.{read_rules_with, read_rules, read_refusal, parts_of, read_frame}
use Rattle.frame.specs.Iso.{iso_read_rules, iso_read_refusal, iso_parts, read_iso}
use Rattle.frame.proofs.bytes.Laws.{cases}
use Rattle.frame.proofs.refusal.Laws.{given_by}
use Rattle.stream.proofs.record.Laws.{fit_within, told_by}
use Rattle.stream.proofs.reader.Events.{event_is}

-- A frame is of twelve bytes at most.
abbrev Fits : Outcome Frame → Type 0
Fits (refused n) = Unit {0}
Fits (accepted f) = frame_size f ≤ most_bytes

record_fits : (r : List ℕ) (o : Outcome Frame) → tells r ≡ Some o → Fits o
unfolding runs_in
record_fits r o e =
    let first = length-take (first_length r) (drop runs_at r) in
    let second = length-take (second_length r) (drop (runs_at + first_length r) r) in
    told_by r o e (λ k w h. subst Fits h (omega (arith, fit_within r w, first, second))) (λ k h. subst Fits h tt) (λ f t h. subst Fits h tt)

abbrev AllFits : Option (Outcome Frame) → Type 0
AllFits None = Unit {0}
AllFits (Some o) = Fits o

abbrev EventFits : Option Event → Type 0
EventFits None = Unit {0}
EventFits (Some e) = Fits e.told

event_fits : (p : Position) (x : Option Event) → event_at p ≡ x → EventFits x
event_fits p None e = tt
event_fits p (Some y) e = record_fits p.begun y.told (event_is p y e).record_tells

-- "a frame that is given has two runs of at most twelve bytes together"
pub given_within : (p : Position) (part : List ℕ) (room : ℕ) (f : Frame) → told_within p part room ≡ Some (accepted f) → frame_size f ≤ most_bytes
given_within p part room f e =
    subst AllFits e (go (told p part) (event_fits (reach p part).position (told p part) refl))
  where
    lent : (o : Outcome Frame) (t : Bool) → Fits o → Fits (cond t (refused output_short) o)
    lent o true w = tt
    lent o false w = w

    go : (x : Option Event) → EventFits x → AllFits (option_map (λ (y : Event). within room y.told) x)
    go None w = tt
    go (Some y) w = lent y.told (outgrows y.told room) w

-- Twelve bytes of output are always enough.
pub never_short : (p : Position) (part : List ℕ) (room : ℕ) → most_bytes ≤ room → is_short (told p part) room ≡ false
never_short p part room l = go (told p part) (event_fits (reach p part).position (told p part) refl)
  where
    fits : (o : Outcome Frame) → Fits o → outgrows o room ≡ false
    fits (refused n) w = refl
    fits (accepted f) w = le-ltb room (frame_size f) (omega (arith, l, w))

    go : (x : Option Event) → EventFits x → is_short x room ≡ false
    go None w = refl
    go (Some y) w = fits y.told w

only : (b : Bool) → (b || false) ≡ true → b ≡ true
only true e = refl
only false e = e

-- "so that the reader of frames never refuses it with 1": refusal 1 is the first rule's alone, on either bus.
refused_by : {A : Type 0} (n m : ℕ) (a : A) → outcome n a ≡ refused m → n ≡ m
refused_by n m a e =
    cases (eqb n no_refusal)
    (λ t. absurd (let o : accepted a ≡ refused m = sym (rw t refl) ∙ e in let z : ◌≡◌ {A = ℕ} 0 1 = cc in omega arith))
    (λ t. let o : refused n ≡ refused m = sym (rw t refl) ∙ e in cc)

j1850_size : (first response : List ℕ) → read_frame first response ≡ refused too_long → ltb most_bytes (length first + length response) ≡ true
unfolding read_frame read_refusal read_rules read_rules_with count_rules
j1850_size first response e =
    only (ltb most_bytes (length first + length response))
    (given_by too_long (read_rules first response) (omega arith) (refused_by (read_refusal first response) too_long (parts_of first response) e))

iso_size : (run : List ℕ) → read_iso run ≡ refused too_long → ltb most_bytes (length run) ≡ true
unfolding read_iso iso_read_refusal iso_read_rules
iso_size run e =
    only (ltb most_bytes (length run))
    (given_by too_long (iso_read_rules run) (omega arith) (refused_by (iso_read_refusal run) too_long (iso_parts run) e))

pub never_too_long :
    (p : Position) (part : List ℕ) (room : ℕ) (f : Frame)
    → told_within p part room ≡ Some (accepted f)
    → (read_frame f.first f.response ≡ refused too_long → ⊥) × (read_iso f.first ≡ refused too_long → ⊥)
never_too_long p part room f e =
    let few = given_within p part room f e in (
      λ z. let over = ltb-true most_bytes (frame_size f) (j1850_size f.first f.response z) in omega (arith, few, over),
      λ z. let over = ltb-true most_bytes (length f.first) (iso_size f.first z) in omega (arith, few, over),
    )
