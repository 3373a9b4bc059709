-- After refusal 60 there is no more.
use Rattle.std.proofs.Common.{◌≡◌, ℕ, true, List, sym, refl, ap, ◌∙◌, subst, arith, ne_eqb, Some}
use Rattle.frame.specs.Refusal.{refused}
use Rattle.stream.specs.Refusal.{stream_kind_unknown, stream_record_wrong}
use Rattle.stream.specs.Record.{frame_kind, tick_kind, kind_of, is_unknown_kind, tells}
use Rattle.stream.specs.Stream.{Event}
use Rattle.stream.specs.Reader.{Position, passed, event_at, reach, cut_refusal}
use Rattle.stream.specs.Calls.{Form, call}
use Rattle.stream.specs.Cuts.{BetweenCalls, Keeping, NoMore}
use Rattle.stream.proofs.record.Laws.{told_by}
use Rattle.stream.proofs.reader.Flow.{end_stopped}
use Rattle.stream.proofs.reader.Events.{event_is}
use Rattle.stream.proofs.calls.Laws.{between_after, call_tells, idle}

-- Only an unknown kind tells 60.
unknown_kind_lem : (r : List ℕ) → tells r ≡ Some (refused stream_kind_unknown) → is_unknown_kind (kind_of r) ≡ true
unknown_kind_lem r e =
    told_by r (refused stream_kind_unknown) e (λ k w h. absurd (let z : ◌≡◌ {A = ℕ} 0 1 = cc in omega arith))
    (λ k h. absurd (let z : ◌≡◌ {A = ℕ} stream_record_wrong stream_kind_unknown = cc in omega arith))
    (λ f t h. rw (ne_eqb (kind_of r) frame_kind f, ne_eqb (kind_of r) tick_kind t) refl)

stops_there : (p : Position) (e : Event) → event_at p ≡ Some e → e.told ≡ refused stream_kind_unknown → (passed p).stopped ≡ true
unfolding passed
stops_there p e h sixty = let told = event_is p e h in rw told.whole (unknown_kind_lem p.begun (told.record_tells ∙ ap Some sixty))

module _ {S : Type 0} (f : Form S) {start : S} (keeps : Keeping f start) where
  no_more : (s : S) → BetweenCalls (f.view s) → (f.view s).stopped ≡ true → NoMore f s
  no_more s g e =
      record {
        taken = λ cs rest. (idle f keeps cs s rest g e).left;
        given = λ cs rest. (idle f keeps cs s rest g e).events;
        end = λ cs rest.
            let still = ap (λ (q : Position). q.stopped) (idle f keeps cs s rest g e).view in
            ap cut_refusal (end_stopped _ (still ∙ e));
      }

  pub after_sixty :
      (s : S) (part : List ℕ) (room : ℕ) (e : Event)
      → BetweenCalls (f.view s)
      → (call f s part room).event ≡ Some e
      → e.told ≡ refused stream_kind_unknown
      → NoMore f (call f s part room).state
  after_sixty s part room e g h sixty =
      let p = f.view s in
      let tells = call_tells f keeps s part room e g h in
      no_more (call f s part room).state (subst BetweenCalls (sym tells.1) (between_after p part g))
      (ap (λ (q : Position). q.stopped) tells.1 ∙ stops_there (reach p part).position e tells.0 sixty)
