-- What a state holds of the stream, whatever calls made it.
use Rattle.std.proofs.Common.{◌≡◌, ℕ, ◌%◌, ◌^◌, List, [], ◌∷◌, ◌++◌, length, take, drop, sym, refl, ap, ◌∙◌, subst, append_assoc, arith}
use Rattle.std.proofs.Common.{length-append, take-append-drop}
use native.Mathlib.Nat.{mod-add-mod}
use lib.Seq.{append_snoc}
use Rattle.frame.proofs.bytes.Laws.{cases}
use Rattle.stream.specs.Record.{kind_of, partial}
use Rattle.stream.specs.Stream.{place_behind}
use Rattle.stream.specs.Reader.{Position, with_byte, passed, reach, told, taken, after}
use Rattle.stream.specs.Calls.{Form, is_short, call, Lent, calls_over}
use Rattle.stream.specs.Cuts.{BetweenCalls, Keeping, HoldsBegun}
use Rattle.stream.proofs.record.Laws.{size_within, part_size}
use Rattle.stream.proofs.reader.Laws.{reach_keeps}
use Rattle.stream.proofs.calls.Laws.{between_after, untaken, call_steps, starts_fresh, start_between}

-- A position in a stream, before the bytes not yet taken.
pub record StandsIn (s : List ℕ) (p : Position) (rest : List ℕ) : Type 0 where
  pub before : List ℕ
  pub stands : s ≡ before ++ (p.begun ++ rest)
  pub place : p.place ≡ length before % 2 ^ 64

module _ {s : List ℕ} where
  byte_taken : {p : Position} {b : ℕ} {rest : List ℕ} → StandsIn s p (b ∷ rest) → StandsIn s (with_byte p b) rest
  byte_taken {p} {b} {rest} w =
      record { before = w.before; stands = w.stands ∙ ap (λ (u : List ℕ). w.before ++ u) (sym (append_snoc p.begun b rest)); place = w.place }

  record_passed : {p : Position} {rest : List ℕ} → StandsIn s p rest → StandsIn s (passed p) rest
  unfolding passed
  record_passed {p} {rest} w =
      cases (partial p.begun) (λ e. rw e w)
      (λ e.
      rw e
      (record {
        before = w.before ++ p.begun;
        stands = w.stands ∙ sym (append_assoc w.before p.begun rest);
        place =
            ap (λ (n : ℕ). place_behind n (length p.begun)) w.place
            ∙ mod-add-mod (length w.before) (2 ^ 64) (length p.begun)
            ∙ ap (λ (n : ℕ). n % 2 ^ 64) (sym (length-append w.before p.begun));
      }))

  reached :
      (later : List ℕ) (p : Position) (part : List ℕ)
      → StandsIn s p (part ++ later)
      → StandsIn s (reach p part).position (drop (reach p part).taken part ++ later)
  reached later =
      reach_keeps (λ p part r. StandsIn s p (part ++ later) → StandsIn s r.position (drop r.taken part ++ later)) (λ p part w. w)
      (λ p b part e t w. byte_taken w) (λ p b part r e t kept w. kept (record_passed (byte_taken w)))

module _ {S : Type 0} (f : Form S) {start : S} (keeps : Keeping f start) where
  -- What a state is: that of its position, which stands in the stream.
  record Kept (s : List ℕ) (state : S) (rest : List ℕ) : Type 0 where
    pub written : f.write (f.view state) ≡ state
    pub between : BetweenCalls (f.view state)
    pub stands : StandsIn s (f.view state) rest

  kept_call :
      {s : List ℕ} (state : S) (part later : List ℕ) (room : ℕ)
      → Kept s state (part ++ later)
      → Kept s (call f state part room).state (drop (call f state part room).taken part ++ later)
  unfolding call
  kept_call {s} state part later room w =
      let p = f.view state in
      let same = keeps.back (after p part) (between_after p part w.between) in
      cases (is_short (told p part) room) (λ e. rw e w)
      (λ e.
      rw e
      (record {
        written = ap f.write same;
        between = subst BetweenCalls (sym same) (between_after p part w.between);
        stands =
            subst (λ (q : Position). StandsIn s q (drop (taken p part) part ++ later)) (sym same) (record_passed (reached later p part w.stands));
      }))

  kept_calls :
      {s : List ℕ} (cs : List Lent) (state : S) (rest : List ℕ)
      → Kept s state rest
      → Kept s (calls_over f cs state rest).state (calls_over f cs state rest).rest
  unfolding calls_over
  kept_calls [] state rest w = w
  kept_calls {s} (c ∷ cs) state rest w =
      let part = take c.size rest in
      let behind = drop c.size rest in
      let k = call f state part c.room in
      let front = take-append-drop c.size rest in
      let left = untaken c.size k.taken rest (call_steps f keeps state part c.room w.between).within in
      kept_calls cs k.state (drop k.taken rest)
      (subst (Kept s k.state) left (kept_call state part behind c.room (subst (Kept s state) (sym front) w)))

  pub holds_begun : (cs : List Lent) (s : List ℕ) → HoldsBegun f s (calls_over f cs start s)
  holds_begun cs s =
      let first : Kept s start s =
      record {
        written = ap f.write (starts_fresh f keeps) ∙ keeps.starts;
        between = start_between f keeps;
        stands =
            subst (λ (q : Position). StandsIn s q s) (sym (starts_fresh f keeps)) (record { before = []; stands = refl; place = refl });
      } in
      let w = kept_calls cs start s first in
      let begun = (f.view (calls_over f cs start s).state).begun in
      record {
        written = w.written;
        few = omega (arith, part_size begun w.between.open_record, (size_within (kind_of begun)).1);
        open_record = w.between.open_record;
        before = w.stands.before;
        stands = w.stands.stands;
        place = w.stands.place;
      }
