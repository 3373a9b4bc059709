-- Laws of the sum byte, and of reading and writing a message of ISO 9141-2.
use mathlib.Core.Path.{◌≡◌, refl, sym, ap, ◌∙◌}
use mathlib.Core.Bool.{true, false, not, ◌||◌, true≢false}
use mathlib.Core.List.{List, [], ◌∷◌, ◌++◌}
use Prim.Native.Nat.{ℕ, ◌+◌, ◌-◌, ◌%◌, ◌≤◌, ◌<◌}
use native.Mathlib.Omega.{arith}
use native.Mathlib.Numerals.{add-one}
use borrow.Author.Tests.{le-ltb, ltb-false, eq-eqb, ne_eqb, eqb-true, eqb-false, not-false}
use lib.Dec.{eqb, lit<}
use lib.ListN.{length, drop, get_or, drop_of_length-le}
use lib.Seq.{drop-cons, length-take-le, get_or-take}
use Rattle.frame.specs.declared.response.ResponseKind.TheVariants.{Empty}
use Rattle.frame.specs.Seal.{is_sealed_by}
use Rattle.frame.specs.Header.{bit_h, bit_k, three_byte_form}
use Rattle.frame.specs.Response.{kind_empty}
use Rattle.frame.specs.Refusal.{accepted, no_refusal}
use Rattle.frame.specs.Frame.{Frame, frame_size, Parts, parts_at, most_bytes, sizes, Handed}
use Rattle.frame.specs.Iso.{sum, sum_byte, wrong_first, iso_read_rules, iso_read_refusal, iso_parts, read_iso, IsoObeys}
use Rattle.frame.specs.Iso.{iso_frame, iso_write_rules, iso_write_refusal, write_iso}
use Rattle.frame.proofs.bytes.Laws.{cases, byte_at}
use Rattle.frame.proofs.seal.Laws.{Detects}
use Rattle.frame.proofs.refusal.Laws.{kept, last_kept, none_broken, unrefused_is, accepted_has}
use Rattle.frame.proofs.frame.Laws.{run_length, parts_found, run_again, sizes_at, handed_at}
use Rattle.std.specs.Prelude.{fold}

-- The sum over what is left of a run: one byte more is added, until nothing is left.
pub sum_start : (s : List ℕ) → sum_byte s ≡ (0 + sum s) % 256
unfolding sum_byte
sum_start s = omega arith

pub sum_next : (s : List ℕ) (i r : ℕ) → i < length s → (r + sum (drop i s)) % 256 ≡ ((r + get_or s i 0) % 256 + sum (drop (i + 1) s)) % 256
unfolding sum
sum_next s i r h = rw (add-one, drop-cons s i 0 h) (omega arith)

pub sum_end : (s : List ℕ) (i r : ℕ) → length s ≤ i → r < 256 → (r + sum (drop i s)) % 256 ≡ r
unfolding sum
sum_end s i r h small = rw (drop_of_length-le s {i = i} h) (omega arith)

-- The sum over a run is a fold over its bytes.
sum_fold : (s : List ℕ) (r : ℕ) → r < 256 → (r + sum s) % 256 ≡ fold (λ r b. (r + b) % 256) r s
unfolding sum
sum_fold [] r small = omega arith
sum_fold (b ∷ s) r small = omega arith ∙ sum_fold s ((r + b) % 256) (omega arith)

-- The sum byte is a fold over the bytes of a run.
pub sum_byte_fold : (s : List ℕ) → sum_byte s ≡ fold (λ r b. (r + b) % 256) 0 s
unfolding sum_byte
sum_byte_fold s = omega arith ∙ sum_fold s 0 (omega arith)

sum_append : (u v : List ℕ) → sum (u ++ v) ≡ sum u + sum v
unfolding sum
sum_append [] v = omega arith
sum_append (x ∷ u) v = omega (arith, sum_append u v)

-- "a step of the register and a sum are one-to-one": the sum detects a change of one byte.
pub sum_detects : Detects sum_byte
unfolding sum_byte sum
sum_detects u v x y bx by e =
    omega (arith, e, sum_append u (x ∷ v), sum_append u (y ∷ v), byte_at u x v bx, byte_at u y v by)

-- The first byte, by its two bits.
pub first_wrong_h : (s : List ℕ) → bit_h (get_or s 0 0) ≡ 1 → wrong_first s ≡ true
unfolding wrong_first
first_wrong_h s e = rw (eq-eqb (bit_h (get_or s 0 0)) 1 e)

pub first_by_k : (s : List ℕ) → (bit_h (get_or s 0 0) ≡ 1 → ⊥) → wrong_first s ≡ eqb (bit_k (get_or s 0 0)) 0
unfolding wrong_first
first_by_k s e = rw (ne_eqb (bit_h (get_or s 0 0)) 1 e)

pub first_kept : (s : List ℕ) → bit_h (get_or s 0 0) ≡ 0 → bit_k (get_or s 0 0) ≡ 1 → wrong_first s ≡ false
first_kept s h k =
    let b : ℕ = get_or s 0 0 in
    first_by_k s (λ e. let z : ◌≡◌ {A = ℕ} 0 1 = sym h ∙ e in omega arith)
    ∙ ne_eqb (bit_k b) 0 (λ e. let z : ◌≡◌ {A = ℕ} 1 0 = sym k ∙ e in omega arith)

pub first_right : (s : List ℕ) → wrong_first s ≡ false → (bit_h (get_or s 0 0) ≡ 0) × (bit_k (get_or s 0 0) ≡ 1)
first_right s e =
    let b : ℕ = get_or s 0 0 in
    cases (eqb (bit_h b) 1)
    (λ t. absurd (true≢false (sym (first_wrong_h s (eqb-true (bit_h b) 1 t)) ∙ e)))
    (λ f.
    let h = eqb-false (bit_h b) 1 f in
    let k = eqb-false (bit_k b) 0 (sym (first_by_k s h) ∙ e) in
    (omega (arith, h), omega (arith, k)))

-- It follows from the byte alone.
pub same_first : (s t : List ℕ) → get_or s 0 0 ≡ get_or t 0 0 → wrong_first s ≡ wrong_first t
unfolding wrong_first
same_first s t e = ap (λ (b : ℕ). eqb (bit_h b) 1 || eqb (bit_k b) 0) e

module _ (run : List ℕ) where
  -- No refusal: every rule is obeyed.
  pub obeys : iso_read_refusal run ≡ no_refusal → IsoObeys run
  unfolding iso_read_refusal iso_read_rules
  obeys e =
      let one = none_broken _ _ e (lit< tt) in
      let two = none_broken _ _ one.1 (lit< tt) in
      let three = none_broken _ _ two.1 (lit< tt) in
      let nine = none_broken _ _ three.1 (lit< tt) in
      let first = first_right run nine.0 in
      record {
        most = ltb-false most_bytes (length run) one.0;
        long = ltb-false (length run) (three_byte_form + 1) two.0;
        check = not-false (is_sealed_by sum_byte run) three.0;
        first_h = first.0;
        first_k = first.1;
      }

  -- Every rule is obeyed: no refusal.
  pub read_unrefused : IsoObeys run → iso_read_refusal run ≡ no_refusal
  unfolding iso_read_refusal iso_read_rules
  read_unrefused o =
      kept _ _ (le-ltb most_bytes (length run) o.most)
      ∙ kept _ _ (le-ltb (length run) (three_byte_form + 1) o.long)
      ∙ kept _ _ (ap not o.check)
      ∙ last_kept _ (first_kept run o.first_h o.first_k)

  pub read_accepts : iso_read_refusal run ≡ no_refusal → read_iso run ≡ accepted (iso_parts run)
  unfolding read_iso
  read_accepts e = unrefused_is (iso_read_refusal run) (iso_parts run) e

  -- What is handed over of an accepted message: the sizes of its parts, which lie within the run.
  pub accepted_sizes :
      IsoObeys run
      → sizes (accepted (iso_parts run))
      ≡ accepted (record { header = three_byte_form; body = length run - (three_byte_form + 1); kind = kind_empty; response = 0 })
  unfolding iso_parts
  accepted_sizes o = sizes_at three_byte_form run Empty [] o.long

  pub handed : (p : Parts) → read_iso run ≡ accepted p → Handed run [] p
  unfolding read_iso iso_parts
  handed p e =
      accepted_has (Handed run []) (iso_read_refusal run) (iso_parts run) p e
      (λ z.
      let o = obeys z in
      handed_at three_byte_form run Empty [] o.long [] (omega arith) refl (omega arith) (omega (arith, o.most)))

-- The writer's rules, said without an order.
pub record IsoWrites (header body : List ℕ) (room : ℕ) : Type 0 where
  pub size : length header ≡ three_byte_form
  pub first : wrong_first header ≡ false
  pub most : frame_size (iso_frame header body) ≤ most_bytes
  pub fits : frame_size (iso_frame header body) ≤ room

module _ (h d : List ℕ) where
  pub frame_size_lem : frame_size (iso_frame h d) ≡ length h + length d + 1
  unfolding iso_frame
  frame_size_lem = omega (arith, run_length sum_byte h d)

  module _ (room : ℕ) where
    -- No refusal: every rule is kept.
    pub writes : iso_write_refusal h d room ≡ no_refusal → IsoWrites h d room
    unfolding iso_write_refusal iso_write_rules
    writes e =
        let seven = none_broken _ _ e (lit< tt) in
        let nine = none_broken _ _ seven.1 (lit< tt) in
        let one = none_broken _ _ nine.1 (lit< tt) in
        let eight = none_broken _ _ one.1 (lit< tt) in
        record {
          size = eqb-true (length h) three_byte_form (not-false _ seven.0);
          first = nine.0;
          most = ltb-false most_bytes (frame_size (iso_frame h d)) one.0;
          fits = ltb-false room (frame_size (iso_frame h d)) eight.0;
        }

    -- Every rule is kept: no refusal.
    pub write_unrefused : IsoWrites h d room → iso_write_refusal h d room ≡ no_refusal
    unfolding iso_write_refusal iso_write_rules
    write_unrefused w =
        kept _ _ (ap not (eq-eqb (length h) three_byte_form w.size))
        ∙ kept _ _ w.first
        ∙ kept _ _ (le-ltb most_bytes (frame_size (iso_frame h d)) w.most)
        ∙ last_kept _ (le-ltb room (frame_size (iso_frame h d)) w.fits)

    pub write_accepts : iso_write_refusal h d room ≡ no_refusal → write_iso h d room ≡ accepted (iso_frame h d)
    unfolding write_iso
    write_accepts e = unrefused_is (iso_write_refusal h d room) (iso_frame h d) e

    -- What is written lies within twelve bytes and within the lent room.
    pub written_within : (f : Frame) → write_iso h d room ≡ accepted f → (frame_size f ≤ most_bytes) × (frame_size f ≤ room)
    unfolding write_iso
    written_within f e =
        accepted_has (λ g. (frame_size g ≤ most_bytes) × (frame_size g ≤ room)) (iso_write_refusal h d room) (iso_frame h d) f e
        (λ z. ((writes z).most, (writes z).fits))

-- The reader finds the parts of which a message was made.
pub message_parts :
    (h d : List ℕ)
    → length h ≡ three_byte_form
    → iso_parts (iso_frame h d).first ≡ record { header = h; body = d; kind = Empty; response = [] }
unfolding iso_parts iso_frame
message_parts h d size = parts_found sum_byte h d three_byte_form (sym size) refl refl

-- The parts of a message that obeys the rules are written wherever they fit, and make the message.
pub again :
    (s : List ℕ) (room : ℕ)
    → IsoObeys s
    → length s ≤ room
    → (let p = iso_parts s in
    (iso_write_refusal p.header p.body room ≡ no_refusal) × (iso_frame p.header p.body ≡ record { first = s; response = [] }))
unfolding iso_parts parts_at iso_frame
again s room o fits =
    let h = (iso_parts s).header in
    let d = (iso_parts s).body in
    let same : iso_frame h d ≡ record { first = s; response = [] } =
    ap (λ (t : List ℕ). record { first = t; response = [] }) (run_again sum_byte s three_byte_form o.long o.check) in
    let total : frame_size (iso_frame h d) ≡ length s = ap frame_size same ∙ omega arith in
    let byte : get_or h 0 0 ≡ get_or s 0 0 = get_or-take three_byte_form s 0 0 (omega arith) in
    let w : IsoWrites h d room =
    record {
      size = length-take-le three_byte_form s (omega (arith, o.long));
      first = same_first h s byte ∙ first_kept s o.first_h o.first_k;
      most = omega (arith, total, o.most);
      fits = omega (arith, total);
    } in
    (write_unrefused h d room w, same)
