-- Laws of the filter of keys.
use Rattle.std.proofs.Common.{is_some}
use mathlib.Core.Path.{◌≡◌, sym, ap, ◌∙◌}
use mathlib.Core.Logic.{⊎_elim}
use mathlib.Core.Bool.{Bool, true, false, true≢false}
use mathlib.Core.List.Memᴰ
use mathlib.Core.List.{List, [], ◌∷◌, ◌++◌, Memᴰ}
use Prim.Native.Nat.{ℕ, ◌-◌, ◌*◌, ◌/◌, ◌%◌, ◌^◌, ◌≤◌, ◌<◌, max}
use native.Mathlib.Nat.{le-max_left, le-max_right, max-le, one-mul, mod-eq_of_lt, div_self}
use native.Mathlib.Omega.{arith}
use borrow.Author.Tests.{eq-eqb, ne_eqb, eqb-true, eqb-false}
use lib.Bits.{bit_or, bit_and, or_shr, or_step, and_mask, and_le_r}
use lib.Dec.{eqb}
use lib.ListN.{length, get_or, set, length-set}
use lib.Pow.{pow_pos, pow-lt}
use lib.Seq.{get_or-set_same, get_or-set_other}
use Rattle.frame.proofs.bytes.Laws.{cases}
use Rattle.catalogue.specs.Record.{key_of, record_with, FullKey}
use Rattle.catalogue.specs.Inner.{word_bits, bit_of, bit_in, word_of, marked, Marks, Covers}
use Rattle.catalogue.proofs.record.Keys.{differs_new}

-- A bit of two words joined is set where one of them has it.
or_bit : (a b k : ℕ) → bit_or a b / 2 ^ k % 2 ≡ max (a / 2 ^ k % 2) (b / 2 ^ k % 2)
or_bit a b k =
    let x : ℕ = a / 2 ^ k in
    let y : ℕ = b / 2 ^ k in
    let small : max (x % 2) (y % 2) ≤ 1 = max-le (omega arith) (omega arith) in
    ap (λ (n : ℕ). n % 2) (or_shr a b k ∙ or_step x y) ∙ omega arith

or_kept : (a b k : ℕ) → a / 2 ^ k % 2 ≡ 1 → bit_or a b / 2 ^ k % 2 ≡ 1
or_kept a b k e = omega (arith, or_bit a b k, le-max_left (a / 2 ^ k % 2) (b / 2 ^ k % 2))

-- The word with one bit, as the code makes it.
one_bit : (k : ℕ) → k < word_bits → 1 * 2 ^ k % 2 ^ 64 ≡ 2 ^ k
one_bit k h = ap (λ (n : ℕ). n % 2 ^ 64) (one-mul (2 ^ k)) ∙ mod-eq_of_lt (pow-lt h)

or_set : (a k : ℕ) → k < word_bits → bit_or a (1 * 2 ^ k % 2 ^ 64) / 2 ^ k % 2 ≡ 1
or_set a k h =
    let own : 1 * 2 ^ k % 2 ^ 64 / 2 ^ k ≡ 1 = ap (λ (n : ℕ). n / 2 ^ k) (one_bit k h) ∙ div_self (pow_pos k) in
    omega (arith, or_bit a (1 * 2 ^ k % 2 ^ 64) k, own, le-max_right (a / 2 ^ k % 2) (1 * 2 ^ k % 2 ^ 64 / 2 ^ k % 2))

-- A filter of no words counts as full.
pub marks_none : (f key : List ℕ) → length f ≡ 0 → Marks f f key true
unfolding marked
marks_none f key e = record { told = rw (eq-eqb (length f) 0 e); set = rw (eq-eqb (length f) 0 e); kept = λ b m. m }

-- A filter that has words has the word of each bit.
marked_within : (f : List ℕ) (bit : ℕ) → (length f ≡ 0 → ⊥) → marked f bit ≡ eqb (bit_in (get_or f (word_of f bit) 0) bit) 1
unfolding marked
marked_within f bit n = rw (ne_eqb (length f) 0 n)

pub word_within : (f : List ℕ) (bit : ℕ) → (length f ≡ 0 → ⊥) → word_of f bit < length f
word_within f bit n =
    cases (eqb (length f) 0) (λ t. absurd (n (eqb-true _ _ t)))
    (λ e. omega (arith, and_le_r (bit / word_bits) (length f - 1), eqb-false (length f) 0 e))

-- A key whose bit is set in its word.
module _ (f : List ℕ) (bit : ℕ) (n : length f ≡ 0 → ⊥) where
  -- The word with the bit, and the filter with that word.
  joined : ℕ
  joined = bit_or (get_or f (word_of f bit) 0) (1 * 2 ^ (bit % word_bits) % 2 ^ 64)

  after : List ℕ
  after = set f (word_of f bit) joined

  same_word : (b : ℕ) → word_of after b ≡ word_of f b
  unfolding after
  same_word b = ap (λ (m : ℕ). bit_and (b / word_bits) (m - 1)) (length-set f (word_of f bit) joined)

  word_set : get_or after (word_of f bit) 0 ≡ joined
  unfolding after
  word_set = get_or-set_same f (word_of f bit) joined 0 (word_within f bit n)

  after_within : (b : ℕ) → bit_in (get_or after (word_of f b) 0) b ≡ 1 → marked after b ≡ true
  unfolding after
  after_within b s =
      marked_within after b (λ e. n (sym (length-set f (word_of f bit) joined) ∙ e))
      ∙ eq-eqb (bit_in (get_or after (word_of after b) 0) b) 1
      (ap (λ (w : ℕ). bit_in (get_or after w 0) b) (same_word b) ∙ s)

  own_set : marked after bit ≡ true
  unfolding joined
  own_set =
      after_within bit
      (ap (λ (w : ℕ). bit_in w bit) word_set ∙ or_set (get_or f (word_of f bit) 0) (bit % word_bits) (omega arith))

  still_set : (b : ℕ) → bit_in (get_or f (word_of f b) 0) b ≡ 1 → bit_in (get_or after (word_of f b) 0) b ≡ 1
  unfolding after joined
  still_set b s =
      cases (eqb (word_of f b) (word_of f bit))
      (λ t.
      let same : word_of f b ≡ word_of f bit = eqb-true _ _ t in
      ap (λ (w : ℕ). bit_in w b) (ap (λ (i : ℕ). get_or after i 0) same ∙ word_set)
      ∙ or_kept (get_or f (word_of f bit) 0) (1 * 2 ^ (bit % word_bits) % 2 ^ 64) (b % word_bits) (ap (λ (i : ℕ). bit_in (get_or f i 0) b) (sym same) ∙ s))
      (λ e. ap (λ (w : ℕ). bit_in w b) (get_or-set_other f (word_of f bit) (word_of f b) joined 0 (eqb-false _ _ e)) ∙ s)

  pub marks_within :
      (key : List ℕ)
      → bit ≡ bit_of key
      → Marks f
      (set f (word_of f bit) (bit_or (get_or f (word_of f bit) 0) (1 * 2 ^ (bit % word_bits) % 2 ^ 64)))
      key
      (eqb (bit_and (get_or f (word_of f bit) 0 / 2 ^ (bit % word_bits)) 1) 1)
  unfolding after joined
  marks_within key e =
      record {
        told =
            ap (λ (w : ℕ). eqb w 1) (and_mask (get_or f (word_of f bit) 0 / 2 ^ (bit % word_bits)) 1)
            ∙ sym (ap (marked f) (sym e) ∙ marked_within f bit n);
        set = ap (marked after) (sym e) ∙ own_set;
        kept = λ b m. after_within b (still_set b (eqb-true _ _ (sym (marked_within f b n) ∙ m)));
      }

-- No record needs no bit.
pub covers_none : (f : List ℕ) → Covers f []
covers_none f r m = absurd (Memᴰ.not-nil m)

-- A record after those seen, whose key was marked.
module _ (f g : List ℕ) (seen : List (List ℕ)) (r : List ℕ) {answer : Bool} (marks : Marks f g (key_of r) answer) (covers : Covers f seen) where
  pub covers_more : Covers g (seen ++ r ∷ [])
  covers_more q m =
      ⊎_elim (λ (t : Memᴰ q seen). marks.kept (bit_of (key_of q)) (covers q t))
      (λ (t : Memᴰ q (r ∷ [])). ap (λ (p : List ℕ). marked g (bit_of (key_of p))) (Memᴰ.eq_of_singleton t) ∙ marks.set)
      (Memᴰ.append_cases seen m)

-- Equal keys have the same bit, so a key whose bit was not set is new.
pub surely_new :
    {f g key : List ℕ} {seen : List (List ℕ)} {answer : Bool}
    → FullKey key
    → Marks f g key answer
    → Covers f seen
    → answer ≡ false
    → is_some (record_with key seen) ≡ false
surely_new {f} {g} {key} {seen} full marks covers e =
    differs_new seen key full
    (λ q m same. true≢false (sym (covers q m) ∙ ap (λ (k : List ℕ). marked f (bit_of k)) same ∙ sym marks.told ∙ e))
