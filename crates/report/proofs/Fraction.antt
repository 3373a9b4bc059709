-- Of every Number that a report shows: the fraction, its double, and what equal rows say.
use mathlib.Core.Path.{◌≡◌, sym, subst}
use mathlib.Core.Bool.{true}
use mathlib.Core.Logic.{⊎_elim}
use mathlib.Core.List.Memᴰ
use mathlib.Core.List.{List, [], ◌∷◌, Memᴰ}
use Prim.Native.Nat.{ℕ}
use lib.IntN.{ℤ}
use lib.Ieee.{Float}
use lib.Ieee.Scale.{finite}
use Rattle.catalogue.proofs.Accepted.{good}
use Rattle.report.specs.declared.line.Line.{Line}
use Rattle.report.specs.declared.line.Line.TheVariants.{Number}
use Rattle.report.specs.Rows.{row}
use Rattle.report.specs.Fraction.{IsFraction, ShownLine}
use Rattle.report.specs.Inner.{HoldsFraction, AllHold}
use Rattle.report.proofs.scaling.Finite.{fraction_finite}
use Rattle.report.proofs.row.Equal.{line_same}
use Rattle.report.proofs.message.Held.{numbers_hold}

held_of : (ls : List Line) (l : Line) → AllHold ls → Memᴰ l ls → HoldsFraction l
unfolding AllHold
held_of [] l a m = absurd (Memᴰ.not-nil m)
held_of (k ∷ ls) l a m =
    ⊎_elim (λ (h : l ≡ k). subst HoldsFraction (sym h) a.0) (λ (t : Memᴰ l ls). held_of ls l a.1 t) (Memᴰ.cases_cons m)

shown_holds : (l : Line) → ShownLine l → HoldsFraction l
shown_holds l s = held_of _ l (numbers_hold s.supplement s.bytes (good s.supplement s.accepted) _) s.line

-- "of every Number that any report shows, the double is the whole number over the divisor, divided once; the divisor is 1 to 65535; the
-- whole number is within 2^49 in size"
pub every_number : (x : Float) (n : ℤ) (d : ℕ) → ShownLine (Number x n d) → IsFraction x n d
every_number x n d s = shown_holds (Number x n d) s

-- "equal rows have equal fractions": a line whose row is that of a Number is that Number, with its whole number, divisor and double.
pub equal_rows : (l : Line) (x : Float) (n : ℤ) (d : ℕ) → ShownLine l → ShownLine (Number x n d) → row l ≡ row (Number x n d) → l ≡ Number x n d
equal_rows l x n d s t same = line_same l x n d (shown_holds l s) (every_number x n d t) same

-- "a Number carries a double": one that is finite, neither a NaN nor an infinity.
pub finite_number : (x : Float) (n : ℤ) (d : ℕ) → ShownLine (Number x n d) → finite x ≡ true
finite_number x n d s = fraction_finite (every_number x n d s)
