-- Laws of the register and the check byte.
use mathlib.Core.Path.{◌≡◌, refl, sym, ap, ◌∙◌}
use mathlib.Core.Bool.{Bool, cond, ◌&&◌, ◌||◌, not}
use mathlib.Core.List.{List, [], ◌∷◌, ◌++◌}
use Prim.Native.Nat.{ℕ, zero, suc, ◌+◌, ◌-◌, ◌*◌, ◌/◌, ◌%◌, ◌≤◌, ◌<◌}
use native.Mathlib.Omega.{arith}
use borrow.Author.Tests.{eq-eqb, ne_eqb}
use lib.Bits.{bit_and, bit_xor, differ, xor_step, xor_comm, xor_lt, xor_add_and, or_add_and, or_lt}
use lib.Dec.{T, ltb, eqb, ltb→lt, eqb→eq}
use Rattle.std.specs.Prelude.{fold}
use Rattle.frame.specs.CheckByte.{step, steps, feed, register, check_byte}
use Rattle.frame.specs.CheckByte.{polynomial, all_ones, residue, top_bit, byte_bits}
use mir.Facts.{and_yes}
use Rattle.frame.specs.Bytes.{Bytes}
use Rattle.frame.proofs.bytes.Laws.{below, bytes_front, bytes_behind, byte_at}
use Rattle.frame.proofs.seal.Laws.{Detects}

-- One step as the code computes it: the high bit by a mask, the move by a shift.
coded : ℕ → ℕ
coded r = cond (eqb (bit_and r top_bit) 0) (r * 2 % 256) (bit_xor (r * 2 % 256) polynomial)

step_right : ℕ → Bool
step_right r = eqb (coded r) (step r) && ltb (step r) 256

step_tested : (r : ℕ) → r < 256 → T (eqb (coded r) (step r)) × T (ltb (step r) 256)
unfolding step_right coded step
step_tested r h = and_yes (eqb (coded r) (step r)) (ltb (step r) 256) (below step_right 256 tt r h)

pub step_zero : (r : ℕ) → r < 256 → bit_and r top_bit ≡ 0 → r * 2 % 256 ≡ step r
unfolding coded
step_zero r h e = rw (eq-eqb _ _ e) at (eqb→eq (coded r) (step r) (step_tested r h).0)

pub step_one : (r : ℕ) → r < 256 → (bit_and r top_bit ≡ 0 → ⊥) → bit_xor (r * 2 % 256) polynomial ≡ step r
unfolding coded
step_one r h e = rw (ne_eqb _ _ e) at (eqb→eq (coded r) (step r) (step_tested r h).0)

steps_lt : (n r : ℕ) → r < 256 → steps n r < 256
unfolding steps
steps_lt zero r h = h
steps_lt (suc n) r h = ltb→lt (step (steps n r)) 256 (step_tested (steps n r) (steps_lt n r h)).1

feed_lt : (r b : ℕ) → r < 256 → b < 256 → feed r b < 256
unfolding feed
feed_lt r b hr hb = steps_lt byte_bits (bit_xor r b) (xor_lt 8 r b hr hb)

pub register_lt : (s : List ℕ) (r : ℕ) → r < 256 → Bytes s → register r s < 256
unfolding register
register_lt [] r h b = h
register_lt (x ∷ s) r h b = register_lt s (feed r x) (feed_lt r x h (b 0)) (λ i. b (suc i))

pub register_append : (a b : List ℕ) (r : ℕ) → register r (a ++ b) ≡ register (register r a) b
unfolding register
register_append [] b r = refl
register_append (x ∷ a) b r = register_append a b (feed r x)

-- The register over a run is a fold over its bytes.
pub register_fold : (s : List ℕ) (r : ℕ) → register r s ≡ fold feed r s
unfolding register
register_fold [] r = refl
register_fold (b ∷ s) r = register_fold s (feed r b)

-- Only all ones goes to the residue in the steps of a byte.
residue_test : ℕ → Bool
residue_test x = not (eqb (steps byte_bits x) residue) || eqb x all_ones

only_ones : (x : ℕ) → x < 256 → steps byte_bits x ≡ residue → x ≡ all_ones
unfolding residue_test steps step
only_ones x h e = eqb→eq x all_ones (rw (eq-eqb _ _ e) at (below residue_test 256 tt x h))

complement_test : ℕ → Bool
complement_test r = eqb (feed r (all_ones - r)) residue

pub complement_feeds : (r : ℕ) → r < 256 → feed r (all_ones - r) ≡ residue
unfolding complement_test feed steps step
complement_feeds r h = eqb→eq (feed r (all_ones - r)) residue (below complement_test 256 tt r h)

pub feeds_complement : (r b : ℕ) → r < 256 → b < 256 → feed r b ≡ residue → b ≡ all_ones - r
unfolding feed
feeds_complement r b hr hb e =
    omega (arith, xor_add_and r b, or_add_and r b, or_lt 8 r b hr hb, only_ones (bit_xor r b) (xor_lt 8 r b hr hb) e)

-- Two numbers differ from a third in the same bits only if they are the same.
binary : (x z : ℕ) → x < 2 → z < 2 → differ x z ≡ (x + z) % 2
binary zero z hx hz = omega arith
binary (suc zero) zero hx hz = refl
binary (suc zero) (suc zero) hx hz = refl
binary (suc zero) (suc (suc z)) hx hz = absurd (omega arith)
binary (suc (suc x)) z hx hz = absurd (omega arith)

xor_cancel : (k a b c : ℕ) → a ≤ k → b ≤ k → bit_xor a c ≡ bit_xor b c → a ≡ b
xor_cancel zero a b c ha hb e = omega arith
xor_cancel (suc k) a b c ha hb e =
    let one = xor_step a c in
    let other = xor_step b c in
    let d = binary (a % 2) (c % 2) (omega arith) (omega arith) in
    let d' = binary (b % 2) (c % 2) (omega arith) (omega arith) in
    let upper = xor_cancel k (a / 2) (b / 2) (c / 2) (omega arith) (omega arith) (omega (arith, e, one, other, d, d')) in
    omega (arith, e, one, other, d, d', upper)

-- One bit of the register backwards: where the last bit is one, the polynomial was added in and a one had left.
back : ℕ → ℕ
back s = cond (eqb (s % 2) 0) (s / 2) (bit_xor s polynomial / 2 + top_bit)

back_test : ℕ → Bool
back_test r = eqb (back (step r)) r

-- "a step of the register and a sum are one-to-one": the step, since it can be taken backwards.
step_one_to_one : (r q : ℕ) → r < 256 → q < 256 → step r ≡ step q → r ≡ q
unfolding back_test back step
step_one_to_one r q hr hq e =
    sym (eqb→eq (back (step r)) r (below back_test 256 tt r hr)) ∙ ap back e ∙ eqb→eq (back (step q)) q (below back_test 256 tt q hq)

steps_one_to_one : (n r q : ℕ) → r < 256 → q < 256 → steps n r ≡ steps n q → r ≡ q
unfolding steps
steps_one_to_one zero r q hr hq e = e
steps_one_to_one (suc n) r q hr hq e =
    steps_one_to_one n r q hr hq (step_one_to_one (steps n r) (steps n q) (steps_lt n r hr) (steps_lt n q hq) e)

feed_xor : (r b q d : ℕ) → r < 256 → b < 256 → q < 256 → d < 256 → feed r b ≡ feed q d → bit_xor r b ≡ bit_xor q d
unfolding feed
feed_xor r b q d hr hb hq hd e =
    steps_one_to_one byte_bits (bit_xor r b) (bit_xor q d) (xor_lt 8 r b hr hb) (xor_lt 8 q d hq hd) e

register_one_to_one : (s : List ℕ) (r q : ℕ) → r < 256 → q < 256 → Bytes s → register r s ≡ register q s → r ≡ q
unfolding register
register_one_to_one [] r q hr hq b e = e
register_one_to_one (x ∷ s) r q hr hq b e =
    let fed = register_one_to_one s (feed r x) (feed q x) (feed_lt r x hr (b 0)) (feed_lt q x hq (b 0)) (λ i. b (suc i)) e in
    xor_cancel 255 r q x (omega arith) (omega arith) (feed_xor r x q x hr (b 0) hq (b 0) fed)

-- The check byte detects a change of one byte.
pub register_detects : Detects check_byte
unfolding check_byte register
register_detects u v x y bx by e =
    let r : ℕ = register all_ones u in
    let small : r < 256 = register_lt u all_ones (omega arith) (bytes_front u (x ∷ v) bx) in
    let hx : x < 256 = byte_at u x v bx in
    let hy : y < 256 = byte_at u y v by in
    let rest = bytes_behind u x v bx in
    let over-x = register_append u (x ∷ v) all_ones in
    let over-y = register_append u (y ∷ v) all_ones in
    let lx = register_lt (u ++ x ∷ v) all_ones (omega arith) bx in
    let ly = register_lt (u ++ y ∷ v) all_ones (omega arith) by in
    let same : register (feed r x) v ≡ register (feed r y) v = omega (arith, e, over-x, over-y, lx, ly) in
    let fed = register_one_to_one v (feed r x) (feed r y) (feed_lt r x small hx) (feed_lt r y small hy) rest same in
    xor_cancel 255 x y r (omega arith) (omega arith) (xor_comm x r ∙ feed_xor r x r y small hx small hy fed ∙ xor_comm r y)
