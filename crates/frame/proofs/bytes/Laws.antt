-- A rule at every number below a bound, by one computed test; lists whose elements are bytes.
use mathlib.Core.Path.{◌≡◌, refl, sym, subst}
use mathlib.Core.Logic.{⊎_elim}
use mathlib.Core.Bool.{Bool, true, false, ◌&&◌}
use Prim.Native.Nat.{ℕ, zero, suc, ◌≤◌, ◌<◌}
use native.Mathlib.Nat.{le_of_suc-le-suc, not-suc-le-zero, eq-or-lt_of_le}
use mathlib.Core.List.{List, [], ◌∷◌, ◌++◌}
use native.Mathlib.Omega.{arith}
use borrow.Author.Tests.{ltb-true, ltb-false}
use lib.Dec.{T, ltb}
use lib.ListN.{length, take, length-take, get_or-eq_default}
use lib.Seq.{get_or-take, take_at, get_or_at}
use mir.Facts.{and_yes}
use Rattle.frame.specs.Bytes.{Bytes}

-- by the two values of a test
pub cases : {A : Type 0} (t : Bool) → (t ≡ true → A) → (t ≡ false → A) → A
cases true f g = f refl
cases false f g = g refl

-- f holds at each number below n
abbrev pub all : (ℕ → Bool) → ℕ → Bool
all f zero = true
all f (suc n) = f n && all f n

pub below : (f : ℕ → Bool) (n : ℕ) → T (all f n) → (b : ℕ) → b < n → T (f b)
below f zero t b h = absurd (not-suc-le-zero h)
below f (suc n) t b h =
    ⊎_elim (λ (e : b ≡ n). subst (λ (m : ℕ). T (f m)) (sym e) (and_yes (f n) (all f n) t).0)
    (λ (l : b < n). below f n (and_yes (f n) (all f n) t).1 b l)
    (eq-or-lt_of_le (le_of_suc-le-suc h))

pub bytes_take : (s : List ℕ) (n : ℕ) → Bytes s → Bytes (take n s)
bytes_take s n b i =
    cases (ltb i n) (λ e. rw (get_or-take n s i 0 (ltb-true _ _ e)) (b i))
    (λ e. let g : n ≤ i = ltb-false _ _ e in rw (get_or-eq_default (take n s) 0 {n = i} (simp length-take (omega arith))) (omega arith))

-- The bytes of a run in two parts, and of one around a place.
pub bytes_front : (u v : List ℕ) → Bytes (u ++ v) → Bytes u
bytes_front u v b = subst Bytes (take_at u v (length u) refl) (bytes_take (u ++ v) (length u) b)

pub byte_at : (u : List ℕ) (x : ℕ) (v : List ℕ) → Bytes (u ++ x ∷ v) → x < 256
byte_at u x v b = subst (λ (n : ℕ). n < 256) (get_or_at u x v 0 (length u) refl) (b (length u))

pub bytes_behind : (u : List ℕ) (x : ℕ) (v : List ℕ) → Bytes (u ++ x ∷ v) → Bytes v
bytes_behind [] x v b i = b (suc i)
bytes_behind (w ∷ u) x v b i = bytes_behind u x v (λ (j : ℕ). b (suc j)) i
