-- Laws of records: how long they are, and when bytes are all of one.
use Rattle.std.proofs.Common.{◌≡◌, ℕ, zero, suc, ◌+◌, ◌<◌, ◌≤◌, Bool, true, false, cond, not, ◌&&◌, eqb, ltb, leb, List, [], ◌∷◌, ◌++◌, length, None, Some}
use Rattle.std.proofs.Common.{take, drop, sym, refl, ap, ◌∙◌, arith, length-append, length-drop, length-take-le, take_all}
use Rattle.std.proofs.Common.{drop-drop, take-add, ltb-false, ltb-true, le-ltb, lt-ltb, ne_eqb, eqb-true, le-leb, leb-true}
use borrow.Author.Tests.{lt-leb, eqb-false}
use Rattle.frame.specs.Bytes.{all_zero}
use Rattle.frame.specs.Frame.{Frame, most_bytes}
use Rattle.frame.specs.Refusal.{Outcome, refused, accepted}
use Rattle.frame.proofs.bytes.Laws.{cases}
use Rattle.stream.specs.declared.record.Kind.TheVariants as kinds
use Rattle.stream.specs.Inner.{kind_at, size_of}
use Rattle.stream.specs.Record.{frame_kind, tick_kind, frame_record_size, tick_record_size, kind_of, is_unknown_kind, whole_size, partial}
use Rattle.stream.specs.Record.{first_length, second_length, runs_at, runs_in, runs_fit, tells}
use Rattle.stream.specs.Refusal.{stream_kind_unknown, stream_record_wrong}

pub size_frame : (k : ℕ) → k ≡ frame_kind → whole_size k ≡ frame_record_size
unfolding whole_size
size_frame k e = ap whole_size e

pub size_unknown : (k : ℕ) → (k ≡ frame_kind → ⊥) → (k ≡ tick_kind → ⊥) → whole_size k ≡ 1
unfolding whole_size
size_unknown k f t = rw (ne_eqb k frame_kind f, ne_eqb k tick_kind t)

-- The kind that a byte is has records as long.
pub size_kind : (k : ℕ) → size_of (kind_at k) ≡ whole_size k
unfolding whole_size
size_kind k = go (eqb k frame_kind) (eqb k tick_kind)
  where
    go : (f t : Bool) → size_of (cond f kinds.Frame (cond t kinds.Tick kinds.Unknown)) ≡ cond f frame_record_size (cond t tick_record_size 1)
    go true t = refl
    go false true = refl
    go false false = refl

pub frame_at : (k : ℕ) → kinds.Frame ≡ kind_at k → k ≡ frame_kind
frame_at k e = go (eqb k frame_kind) (eqb k tick_kind) refl e
  where
    go : (f t : Bool) → eqb k frame_kind ≡ f → kinds.Frame ≡ cond f kinds.Frame (cond t kinds.Tick kinds.Unknown) → k ≡ frame_kind
    go true t u e = eqb-true k frame_kind u
    go false true u e = cc
    go false false u e = cc

pub tick_known : (k : ℕ) → eqb k tick_kind ≡ true → is_unknown_kind k ≡ false
tick_known k t = rw t (and_false (not (eqb k frame_kind)))
  where
    and_false : (b : Bool) → (b && false) ≡ false
    and_false true = refl
    and_false false = refl

-- No record is empty, and none is longer than a frame's.
pub size_within : (k : ℕ) → (0 < whole_size k) × (whole_size k ≤ frame_record_size)
unfolding whole_size
size_within k = go (eqb k frame_kind) (eqb k tick_kind)
  where
    go : (f t : Bool) → (0 < cond f frame_record_size (cond t tick_record_size 1)) × (cond f frame_record_size (cond t tick_record_size 1) ≤ frame_record_size)
    go true t = (omega arith, omega arith)
    go false true = (omega arith, omega arith)
    go false false = (omega arith, omega arith)

pub whole_size_lem : (r : List ℕ) → partial r ≡ false → whole_size (kind_of r) ≤ length r
unfolding partial
whole_size_lem r e = ltb-false _ _ e

pub part_size : (r : List ℕ) → partial r ≡ true → length r < whole_size (kind_of r)
unfolding partial
part_size r e = ltb-true _ _ e

-- Of bytes in room for a whole record, so many are a partial one exactly if they are fewer than the kind asks.
pub partial_of : (h : List ℕ) (n : ℕ) → length h ≡ frame_record_size → partial (take n h) ≡ ltb n (whole_size (kind_of h))
unfolding partial
partial_of [] n e = absurd (let z : ◌≡◌ {A = ℕ} 0 frame_record_size = e in omega arith)
partial_of (b ∷ h) zero e =
    lt-ltb 0 (whole_size 0) (size_within 0).0 ∙ sym (lt-ltb 0 (whole_size b) (size_within b).0)
partial_of (b ∷ h) (suc n) e =
    cases (ltb n (length h))
    (λ l. ap (λ (m : ℕ). ltb (suc m) (whole_size b)) (length-take-le n h (let l' : n < length h = ltb-true _ _ l in omega arith)))
    (λ l.
    let m : length h ≤ n = ltb-false _ _ l in
    let w : whole_size b ≤ length (b ∷ h) = omega (arith, (size_within b).1, e) in
    ap (λ (u : List ℕ). ltb (suc (length u)) (whole_size b)) (take_all n h m)
    ∙ le-ltb (suc (length h)) (whole_size b) w
    ∙ sym (le-ltb (suc n) (whole_size b) (omega (arith, w, m))))

-- One byte more than a partial record, and no longer partial: a whole record and nothing behind it.
pub grown :
    (r : List ℕ) (b : ℕ)
    → partial r ≡ true
    → partial (r ++ (b ∷ [])) ≡ false
    → length (r ++ (b ∷ [])) ≡ whole_size (kind_of (r ++ (b ∷ [])))
grown [] b p w =
    let at_most = whole_size_lem (b ∷ []) w in
    omega (arith, at_most, (size_within b).0)
grown (k ∷ r) b p w =
    let fewer = part_size (k ∷ r) p in
    let at_most = whole_size_lem ((k ∷ r) ++ (b ∷ [])) w in
    omega (arith, fewer, at_most, length-append r (b ∷ []))

pub no_bytes : partial [] ≡ true
unfolding partial whole_size
no_bytes = refl

-- The kind of a whole record held is that of the first byte.
pub kind_of_lem : (h : List ℕ) (n : ℕ) → partial (take n h) ≡ false → kind_of (take n h) ≡ kind_of h
kind_of_lem h zero e = absurd (let z : whole_size 0 ≤ 0 = whole_size_lem [] e in omega (arith, z, (size_within 0).0))
kind_of_lem [] (suc n) e = refl
kind_of_lem (b ∷ h) (suc n) e = refl

-- Where the lengths are over twelve together the runs do not fit; else the unused bytes decide.
pub fit_over : (r : List ℕ) → most_bytes < first_length r + second_length r → false ≡ runs_fit r
unfolding runs_fit
fit_over r l = rw (lt-leb (first_length r + second_length r) most_bytes l)

pub fit_unused :
    (r : List ℕ) → first_length r + second_length r ≤ most_bytes → all_zero (drop (runs_at + (first_length r + second_length r)) r) ≡ runs_fit r
unfolding runs_fit
fit_unused r l = rw (le-leb (first_length r + second_length r) most_bytes l)

pub fit_within : (r : List ℕ) → runs_fit r ≡ true → first_length r + second_length r ≤ most_bytes
unfolding runs_fit
fit_within r e = leb-true _ _ (and_left (leb (first_length r + second_length r) most_bytes) _ e)
  where
    and_left : (a b : Bool) → (a && b) ≡ true → a ≡ true
    and_left true b e = refl
    and_left false b e = e

-- What a whole record tells, by its kind.
pub tells_unknown : (r : List ℕ) → (kind_of r ≡ tick_kind → ⊥) → (kind_of r ≡ frame_kind → ⊥) → tells r ≡ Some (refused stream_kind_unknown)
unfolding tells
tells_unknown r t f = rw (ne_eqb (kind_of r) tick_kind t, ne_eqb (kind_of r) frame_kind f)

pub tells_tick : (r : List ℕ) → kind_of r ≡ tick_kind → tells r ≡ None
unfolding tells
tells_tick r t = rw t

pub tells_frame : (r : List ℕ) → kind_of r ≡ frame_kind → tells r ≡ Some (cond (runs_fit r) (accepted (runs_in r)) (refused stream_record_wrong))
unfolding tells
tells_frame r f = rw f

-- What it told, by cases: a frame's record that fits, one that does not, or an unknown kind.
pub told_by :
    {A : Type 0} (r : List ℕ) (o : Outcome Frame)
    → tells r ≡ Some o
    → (kind_of r ≡ frame_kind → runs_fit r ≡ true → accepted (runs_in r) ≡ o → A)
    → (kind_of r ≡ frame_kind → refused stream_record_wrong ≡ o → A)
    → ((kind_of r ≡ frame_kind → ⊥) → (kind_of r ≡ tick_kind → ⊥) → refused stream_kind_unknown ≡ o → A)
    → A
unfolding tells
told_by {A} r o e frame wrong unknown = go (eqb (kind_of r) tick_kind) (eqb (kind_of r) frame_kind) (runs_fit r) refl refl refl e
  where
    go :
        (t f w : Bool)
        → eqb (kind_of r) tick_kind ≡ t
        → eqb (kind_of r) frame_kind ≡ f
        → runs_fit r ≡ w
        → cond t None (cond f (Some (cond w (accepted (runs_in r)) (refused stream_record_wrong))) (Some (refused stream_kind_unknown))) ≡ Some o
        → A
    go true f w x y z e = absurd (let n : ◌≡◌ {A = ℕ} 0 1 = cc in omega arith)
    go false true true x y z e = frame (eqb-true _ _ y) z cc
    go false true false x y z e = wrong (eqb-true _ _ y) cc
    go false false w x y z e = unknown (eqb-false _ _ y) (eqb-false _ _ x) cc

-- The runs of a whole frame record whose lengths fit: as long as they say, and one behind the other.
module _ (r : List ℕ) (whole : length r ≡ frame_record_size) (fit : first_length r + second_length r ≤ most_bytes) where
  pub first_size : length (runs_in r).first ≡ first_length r
  unfolding runs_in
  first_size = length-take-le (first_length r) (drop runs_at r) (omega (arith, length-drop runs_at r, whole, fit))

  pub second_size : length (runs_in r).response ≡ second_length r
  unfolding runs_in
  second_size =
      length-take-le (second_length r) (drop (runs_at + first_length r) r)
      (omega (arith, length-drop (runs_at + first_length r) r, whole, fit))

  pub runs_joined : (runs_in r).first ++ (runs_in r).response ≡ take (first_length r + second_length r) (drop runs_at r)
  unfolding runs_in
  runs_joined =
      sym
      (take-add (first_length r) (second_length r) (drop runs_at r)
      ∙ ap (λ (u : List ℕ). take (first_length r) (drop runs_at r) ++ take (second_length r) u) (drop-drop (first_length r) runs_at r))
