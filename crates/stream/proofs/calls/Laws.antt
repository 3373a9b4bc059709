-- Laws of calls one after the other, for every form of state that gives a position back.
use Rattle.std.proofs.Common.{◌≡◌, ℕ, zero, suc, ◌+◌, ◌^◌, ◌<◌, ◌≤◌, true, false, List, [], ◌∷◌, ◌++◌, length, take, drop, replicate, sym, refl, ap, None, Some}
use Rattle.std.proofs.Common.{◌∙◌, subst, inl, inr, ⊎_elim, append_assoc, append-nil, not-suc-le-zero, mod-lt, arith, length-drop, take-append-drop}
use Rattle.std.proofs.Common.{take_all}
use lib.Seq.{drop-append-le}
use Rattle.frame.specs.Frame.{most_bytes}
use Rattle.frame.proofs.bytes.Laws.{cases}
use Rattle.stream.specs.Record.{partial}
use Rattle.stream.specs.Stream.{Event, Yield, listed, ahead, whole_stream}
use Rattle.stream.specs.Reader.{Position, fresh, with_byte, passed, is_telling, Reached, reach, told, taken, after, end_place}
use Rattle.stream.specs.Calls.{Form, is_short, Step, call, Run, Lent, calls_over, parts_fed, joined_parts}
use Rattle.stream.specs.Cuts.{BetweenCalls, Keeping, AllRead, AsAtOnce}
use Rattle.stream.proofs.reader.Laws.{reach_stopped, reach_tells, reach_on, reach_keeps, passed_partial}
use Rattle.stream.proofs.reader.Flow.{flow, flow_none, flow_stopped, open_event, open_passed, call_flow, whole_flow}
use Rattle.stream.proofs.record.Laws.{no_bytes}
use Rattle.stream.proofs.reader.Events.{nothing_told}
use Rattle.stream.proofs.Given.{never_short}

ahead_ahead : (es fs : List Event) (w : Yield) → ahead es (ahead fs w) ≡ ahead (es ++ fs) w
ahead_ahead es fs w = (λ i. record { events = sym (append_assoc es fs w.events) i; cut = w.cut })

passed_place : (p : Position) → p.place < 2 ^ 64 → (passed p).place < 2 ^ 64
unfolding passed
passed_place p l = cases (partial p.begun) (λ e. rw e l) (λ e. rw e (mod-lt (p.place + length p.begun) (omega arith)))

between_passed : (p : Position) → p.place < 2 ^ 64 → BetweenCalls (passed p)
between_passed p l = record { place = passed_place p l; open_record = passed_partial p }

reached_place : (p : Position) (part : List ℕ) → p.place < 2 ^ 64 → (reach p part).position.place < 2 ^ 64
reached_place =
    reach_keeps (λ p part r. p.place < 2 ^ 64 → r.position.place < 2 ^ 64) (λ p part l. l) (λ p b part e t l. l)
    (λ p b part r e t kept l. kept (passed_place (with_byte p b) l))

pub between_after : (p : Position) (part : List ℕ) → BetweenCalls p → BetweenCalls (after p part)
between_after p part g = between_passed (reach p part).position (reached_place p part g.place)

pub taken_within : (p : Position) (part : List ℕ) → (reach p part).taken ≤ length part
taken_within =
    reach_keeps (λ p part r. r.taken ≤ length part) (λ p part. omega arith) (λ p b part e t. omega arith)
    (λ p b part r e t kept. omega (arith, kept))

-- What a call that was lent the first bytes leaves of all.
pub untaken : (size n : ℕ) (rest : List ℕ) → n ≤ length (take size rest) → drop n (take size rest) ++ drop size rest ≡ drop n rest
untaken size n rest l = sym (drop-append-le n (take size rest) (drop size rest) l) ∙ ap (drop n) (take-append-drop size rest)

module _ {S : Type 0} (f : Form S) {start : S} (keeps : Keeping f start) where
  -- One call: what it tells comes first, the rest is what its state tells of the bytes not taken.
  pub record OneCall (s : S) (part : List ℕ) (k : Step S) : Type 0 where
    pub flows :
        (later : List ℕ)
        → flow (f.view s) (part ++ later) ≡ ahead (listed k.event) (flow (f.view k.state) (drop k.taken part ++ later))
    pub between : BetweenCalls (f.view k.state)
    pub within : k.taken ≤ length part

  pub call_steps : (s : S) (part : List ℕ) (room : ℕ) → BetweenCalls (f.view s) → OneCall s part (call f s part room)
  unfolding call
  call_steps s part room g =
      let p = f.view s in
      let same = keeps.back (after p part) (between_after p part g) in
      cases (is_short (told p part) room)
      (λ e. rw e (record { flows = λ later. refl; between = g; within = omega arith }))
      (λ e.
      rw e
      (record {
        flows = λ later.
            call_flow later p part g.open_record
            ∙ ap (λ (q : Position). ahead (listed (told p part)) (flow q (drop (taken p part) part ++ later))) (sym same);
        between = subst BetweenCalls (sym same) (between_after p part g);
        within = taken_within p part;
      }))

  -- A call that tells something had room for it.
  pub call_tells :
      (s : S) (part : List ℕ) (room : ℕ) (e : Event)
      → BetweenCalls (f.view s)
      → (call f s part room).event ≡ Some e
      → (told (f.view s) part ≡ Some e) × (f.view (call f s part room).state ≡ after (f.view s) part)
  unfolding call
  call_tells s part room e g h =
      let p = f.view s in
      cases (is_short (told p part) room) (λ t. absurd (nothing_told (sym (rw t refl) ∙ h)))
      (λ t. (sym (rw t refl) ∙ h, rw t (keeps.back (after p part) (between_after p part g))))

  -- All calls: likewise.
  pub record AllCalls (s : S) (rest : List ℕ) (r : Run S) : Type 0 where
    pub flows : (later : List ℕ) → flow (f.view s) (rest ++ later) ≡ ahead r.events (flow (f.view r.state) (r.rest ++ later))
    pub between : BetweenCalls (f.view r.state)

  pub calls_run : (cs : List Lent) (s : S) (rest : List ℕ) → BetweenCalls (f.view s) → AllCalls s rest (calls_over f cs s rest)
  unfolding calls_over
  calls_run [] s rest g = record { flows = λ later. refl; between = g }
  calls_run (c ∷ cs) s rest g =
      let part = take c.size rest in
      let k = call f s part c.room in
      let step = call_steps s part c.room g in
      let run = calls_run cs k.state (drop k.taken rest) step.between in
      let front = take-append-drop c.size rest in
      let left = untaken c.size k.taken rest step.within in
      record {
        flows = λ later.
            let behind = drop c.size rest in
            ap (λ (u : List ℕ). flow (f.view s) (u ++ later)) (sym front)
            ∙ ap (flow (f.view s)) (append_assoc part behind later)
            ∙ step.flows (behind ++ later)
            ∙ ap (λ (u : List ℕ). ahead (listed k.event) (flow (f.view k.state) u))
            (sym (append_assoc (drop k.taken part) behind later) ∙ ap (λ (u : List ℕ). u ++ later) left)
            ∙ ap (ahead (listed k.event)) (run.flows later)
            ∙ ahead_ahead (listed k.event) (calls_over f cs k.state (drop k.taken rest)).events _;
        between = run.between;
      }

  -- Where all was read, or reading has stopped, what was left tells nothing.
  pub read_through : (r : Run S) (later : List ℕ) → AllRead f r → flow (f.view r.state) (r.rest ++ later) ≡ flow (f.view r.state) later
  read_through r later a =
      let p = f.view r.state in
      ⊎_elim (λ e. ap (λ (u : List ℕ). flow p (u ++ later)) e) (λ e. flow_stopped p (r.rest ++ later) e ∙ sym (flow_stopped p later e)) a

  -- Once reading has stopped, no call takes or tells anything, and the position stays.
  pub record Idle (s : S) (rest : List ℕ) (r : Run S) : Type 0 where
    pub events : r.events ≡ []
    pub left : r.rest ≡ rest
    pub view : f.view r.state ≡ f.view s

  idle_call :
      (s : S) (part : List ℕ) (room : ℕ)
      → BetweenCalls (f.view s)
      → (f.view s).stopped ≡ true
      → ((call f s part room).event ≡ None) × ((call f s part room).taken ≡ 0) × (f.view (call f s part room).state ≡ f.view s)
  unfolding call
  idle_call s part room g e =
      let p = f.view s in
      let kept : f.view (f.write (passed p)) ≡ p =
      let same = open_passed p g.open_record in ap (λ (q : Position). f.view (f.write q)) same ∙ keeps.back p g in
      rw (reach_stopped p part e, open_event p g.open_record) (refl, ap (λ (r : Reached). r.taken) (reach_stopped p part e), kept)

  pub idle : (cs : List Lent) (s : S) (rest : List ℕ) → BetweenCalls (f.view s) → (f.view s).stopped ≡ true → Idle s rest (calls_over f cs s rest)
  unfolding calls_over
  idle [] s rest g e = record { events = refl; left = refl; view = refl }
  idle (c ∷ cs) s rest g e =
      let k = call f s (take c.size rest) c.room in
      let one = idle_call s (take c.size rest) c.room g e in
      let same = one.2 in
      let later = idle cs k.state (drop k.taken rest) (subst BetweenCalls (sym same) g) (ap (λ (q : Position). q.stopped) same ∙ e) in
      record {
        events = (λ i. listed (one.0 i) ++ later.events i);
        left = later.left ∙ ap (λ (n : ℕ). drop n rest) one.1;
        view = later.view ∙ same;
      }

  -- A call with room for a frame takes a byte, if there is one and reading goes on.
  takes_one :
      (s : S) (b : ℕ) (part : List ℕ) (room : ℕ) → most_bytes ≤ room → (f.view s).stopped ≡ false → 1 ≤ (call f s (b ∷ part) room).taken
  unfolding call
  takes_one s b part room l e =
      let p = f.view s in
      rw (never_short p (b ∷ part) room l)
      (cases (is_telling (with_byte p b)) (λ t. rw (reach_tells p b part e t) (omega arith)) (λ t. rw (reach_on p b part e t) (omega arith)))

  -- So calls as many as bytes take all of them, or reading stops.
  pub enough :
      (n size room : ℕ) (s : S) (rest : List ℕ)
      → most_bytes ≤ room
      → BetweenCalls (f.view s)
      → length rest ≤ n
      → length rest ≤ size
      → AllRead f (calls_over f (replicate n (record { size = size; room = room })) s rest)
  unfolding calls_over
  enough zero size room s [] m g l k = inl refl
  enough zero size room s (b ∷ rest) m g l k = absurd (not-suc-le-zero l)
  enough (suc n) size room s [] m g l k =
      let part : List ℕ = take size [] in
      let step = call_steps s part room g in
      let taken = (call f s part room).taken in
      let left = length-drop {A = ℕ} taken [] in
      enough n size room (call f s part room).state (drop taken []) m step.between (omega (arith, left)) (omega (arith, left))
  enough (suc n) size room s (b ∷ rest) m g l k =
      let part = take size (b ∷ rest) in
      let taken = (call f s part room).taken in
      let step = call_steps s part room g in
      cases (f.view s).stopped
      (λ e.
      let still = idle (replicate (suc n) (record { size = size; room = room })) s (b ∷ rest) g e in
      inr (ap (λ (q : Position). q.stopped) still.view ∙ e))
      (λ e.
      let some-taken : 1 ≤ taken =
      subst (λ (u : List ℕ). 1 ≤ (call f s u room).taken) (sym (take_all size (b ∷ rest) k)) (takes_one s b rest room m e) in
      let left = length-drop taken (b ∷ rest) in
      enough n size room (call f s part room).state (drop taken (b ∷ rest)) m step.between (omega (arith, left, some-taken, l))
      (omega (arith, left, k)))

  -- Part after part: likewise, and nothing is left.
  pub parts_rest : (room : ℕ) (parts : List (List ℕ)) (s : S) → (parts_fed f room parts s).rest ≡ []
  unfolding parts_fed
  parts_rest room [] s = refl
  parts_rest room (part ∷ parts) s = parts_rest room parts _

  pub parts_run :
      (room : ℕ) (parts : List (List ℕ)) (s : S)
      → most_bytes ≤ room
      → BetweenCalls (f.view s)
      → AllCalls s (joined_parts parts) (parts_fed f room parts s)
  unfolding parts_fed joined_parts
  parts_run room [] s m g = record { flows = λ later. refl; between = g }
  parts_run room (part ∷ parts) s m g =
      let size = length part in
      let calls : List Lent = replicate size (record { size = size; room = room }) in
      let fed = calls_over f calls s part in
      let all = enough size size room s part m g (omega arith) (omega arith) in
      let run = calls_run calls s part g in
      let behind = parts_run room parts fed.state m run.between in
      record {
        flows = λ later.
            let joined = joined_parts parts ++ later in
            ap (flow (f.view s)) (append_assoc part (joined_parts parts) later)
            ∙ run.flows joined
            ∙ ap (ahead fed.events) (read_through fed joined all ∙ behind.flows later)
            ∙ ahead_ahead fed.events (parts_fed f room parts fed.state).events _;
        between = behind.between;
      }

  -- A fresh state is between calls; calls from it that read all of a stream tell what it gives read at once.
  pub fresh_between : BetweenCalls fresh
  fresh_between = record { place = omega arith; open_record = no_bytes }

  pub starts_fresh : f.view start ≡ fresh
  starts_fresh = ap f.view (sym keeps.starts) ∙ keeps.back fresh fresh_between

  pub start_between : BetweenCalls (f.view start)
  start_between = subst BetweenCalls (sym starts_fresh) fresh_between

  pub as_at_once : (s : List ℕ) (r : Run S) → AllCalls start s r → AllRead f r → AsAtOnce f s r
  as_at_once s r run all =
      let p = f.view r.state in
      let at_once : whole_stream s ≡ ahead r.events (record { events = []; cut = end_place p }) =
      sym (whole_flow fresh s (length s) no_bytes refl (omega arith))
      ∙ (λ i. flow (sym starts_fresh i) (sym (append-nil s) i))
      ∙ run.flows []
      ∙ ap (ahead r.events) (read_through r [] all ∙ flow_none p) in
      record {
        events = sym (ap (λ (w : Yield). w.events) at_once ∙ append-nil r.events);
        end = sym (ap (λ (w : Yield). w.cut) at_once);
      }
