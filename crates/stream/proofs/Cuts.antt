-- The law of cuts: a stream fed part after part tells what it gives read at once. Each law holds of every form of state that keeps
-- positions; the forms are two, by value and as 24 bytes.
use Rattle.std.specs.Option.{option_map}
use Rattle.std.proofs.Common.{◌≡◌, ℕ, ◌≤◌, Bool, true, false, cond, eqb, List, [], ◌∷◌, length, refl, ap, ◌∙◌, subst, inl, append-nil, Option, None, Some}
use Rattle.frame.specs.Frame.{most_bytes}
use Rattle.frame.specs.Refusal.{refused, output_short}
use Rattle.frame.proofs.bytes.Laws.{cases}
use Rattle.stream.specs.Refusal.{stream_kind_unknown, stream_cut}
use Rattle.stream.specs.Stream.{Event, place_behind}
use Rattle.stream.specs.Reader.{Position, fresh, told, outgrows, within, told_within, end_place, cut_refusal, end_refusal}
use Rattle.stream.specs.State.{fresh_bytes}
use Rattle.stream.specs.Calls.{Form, by_value, by_bytes, is_short, call, Lent, calls_over, parts_fed, joined_parts, singles}
use Rattle.stream.specs.Cuts.{Keeping, AllRead, AsAtOnce, size_told, HoldsBegun, NoMore}
use Rattle.stream.proofs.reader.Laws.{reach_none}
use Rattle.stream.proofs.reader.Flow.{open_event, open_passed}
use Rattle.stream.proofs.reader.Events.{place_behind_told}
use Rattle.stream.proofs.state.Back as back
use Rattle.stream.proofs.calls.Laws.{call_tells, calls_run, parts_run, parts_rest, start_between, as_at_once}
use Rattle.stream.proofs.calls.Held.{holds_begun}
use Rattle.stream.proofs.calls.Sixty.{after_sixty}

-- "24 zeros are a fresh state", and 24 bytes keep every position between calls; so does a state by value.
pub bytes_keep : Keeping by_bytes fresh_bytes
bytes_keep = back.bytes_keep

pub value_keeps : Keeping by_value fresh
value_keeps = back.value_keeps

joined_singles : (s : List ℕ) → joined_parts (singles s) ≡ s
unfolding joined_parts singles
joined_singles [] = refl
joined_singles (b ∷ s) = ap (λ (u : List ℕ). b ∷ u) (joined_singles s)

module _ {S : Type 0} (f : Form S) {start : S} (keeps : Keeping f start) where
  -- "gives the same frames and refusals, in the same order, as if the stream had come at once, however it was cut": whatever is lent to
  -- each call, as soon as all was read.
  pub cuts_alike : (cs : List Lent) (s : List ℕ) → AllRead f (calls_over f cs start s) → AsAtOnce f s (calls_over f cs start s)
  cuts_alike cs s all = as_at_once f keeps s (calls_over f cs start s) (calls_run f keeps cs start s (start_between f keeps)) all

  -- "for every list of parts, the calls over them give exactly the events of the whole, in order, and at the end 62 with its place exactly
  -- when the whole ends inside a record"
  pub parts_alike : (room : ℕ) (parts : List (List ℕ)) → most_bytes ≤ room → AsAtOnce f (joined_parts parts) (parts_fed f room parts start)
  parts_alike room parts most =
      let r = parts_fed f room parts start in
      as_at_once f keeps (joined_parts parts) r (parts_run f keeps room parts start most (start_between f keeps)) (inl (parts_rest f keeps room parts start))

  -- As instances: "one byte at a time", "everything at once", and "an empty part changes nothing", whatever calls made the state.
  pub byte_by_byte : (room : ℕ) (s : List ℕ) → most_bytes ≤ room → AsAtOnce f s (parts_fed f room (singles s) start)
  byte_by_byte room s most =
      subst (λ (u : List ℕ). AsAtOnce f u (parts_fed f room (singles s) start)) (joined_singles s) (parts_alike room (singles s) most)

  pub all_at_once : (room : ℕ) (s : List ℕ) → most_bytes ≤ room → AsAtOnce f s (parts_fed f room (s ∷ []) start)
  unfolding joined_parts
  all_at_once room s most = subst (λ (u : List ℕ). AsAtOnce f u (parts_fed f room (s ∷ []) start)) (append-nil s) (parts_alike room (s ∷ []) most)

  pub empty_part :
      (cs : List Lent) (s : List ℕ) (room : ℕ)
      → call f (calls_over f cs start s).state [] room ≡ record { event = None; taken = 0; state = (calls_over f cs start s).state }
  unfolding call
  empty_part cs s room =
      let state = (calls_over f cs start s).state in
      let begun = holds_begun f keeps cs s in
      let p = f.view state in
      rw (reach_none p, open_event p begun.open_record, open_passed p begun.open_record)
      (λ i. record { event = None; taken = (reach_none p i).taken; state = begun.written i })

  -- The place of an event, for who asks the state that the call left: right behind the record told of.
  pub place_told :
      (cs : List Lent) (s part : List ℕ) (room : ℕ) (e : Event)
      → let k = call f (calls_over f cs start s).state part room in
      k.event ≡ Some e → (f.view k.state).place ≡ place_behind e.place (size_told e.told)
  place_told cs s part room e h =
      let state = (calls_over f cs start s).state in
      let between = (calls_run f keeps cs start s (start_between f keeps)).between in
      let tells = call_tells f keeps state part room e between h in
      ap (λ (q : Position). q.place) tells.1 ∙ place_behind_told (f.view state) part e between.open_record tells.0

  -- "a state that calls made from fresh holds at most fourteen bytes, and they are the bytes of a record begun"
  pub held_begun : (cs : List Lent) (s : List ℕ) → HoldsBegun f s (calls_over f cs start s)
  held_begun = holds_begun f keeps

  -- "after 60 every call takes nothing and gives nothing, and the end is 0"
  pub no_more_after :
      (cs : List Lent) (s part : List ℕ) (room : ℕ) (e : Event)
      → (call f (calls_over f cs start s).state part room).event ≡ Some e
      → e.told ≡ refused stream_kind_unknown
      → NoMore f (call f (calls_over f cs start s).state part room).state
  no_more_after cs s part room e =
      after_sixty f keeps (calls_over f cs start s).state part room e (calls_run f keeps cs start s (start_between f keeps)).between

-- What a call tells, in the answer of the telling call: 8 where the output is shorter than the runs, and then the step takes nothing.
pub call_answers :
    (p : Position) (part : List ℕ) (room : ℕ)
    → told_within p part room
    ≡ cond (is_short (told p part) room) (Some (refused output_short)) (option_map (λ (e : Event). e.told) (told p part))
call_answers p part room = go (told p part)
  where
    go :
        (x : Option Event)
        → option_map (λ (e : Event). within room e.told) x
        ≡ cond (is_short x room) (Some (refused output_short)) (option_map (λ (e : Event). e.told) x)
    go None = refl
    go (Some e) = cases (outgrows e.told room) (λ t. rw t refl) (λ t. rw t refl)

-- What the ending call and the place say together: "At the end a partial record is reported by its place".
pub end_reported : (p : Position) → end_place p ≡ cond (eqb (end_refusal p) stream_cut) (Some p.place) None
unfolding end_place
end_reported p = go p.stopped (eqb (length p.begun) 0)
  where
    go :
        (t z : Bool)
        → cond t None (cond z None (Some p.place))
        ≡ cond (eqb (cut_refusal (cond t None (cond z None (Some p.place)))) stream_cut) (Some p.place) None
    go true z = refl
    go false true = refl
    go false false = refl
