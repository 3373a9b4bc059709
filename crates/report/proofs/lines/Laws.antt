-- Laws of lines in an array: so few are short, and one line more.
use mathlib.Core.Path.{◌≡◌, sym, ap, ◌∙◌}
use mathlib.Core.List.{List, [], ◌∷◌, ◌++◌, append_assoc}
use Prim.Native.Nat.{ℕ, suc, ◌+◌, ◌-◌, ◌*◌, ◌≤◌, ◌<◌}
use native.Mathlib.Omega.{arith}
use lib.ListN.{length, take, set, replicate, length-take, length-set, length-append, length-replicate}
use lib.Seq.{set-append_seam}
use Rattle.std.proofs.lemmas.List.{take_more_set}
use Rattle.report.specs.declared.line.Line.{Line}
use Rattle.report.specs.declared.line.Line.TheVariants.{Short}
use Rattle.report.specs.declared.tally.Tally.{Tally}
use Rattle.report.specs.Rows.{number_row_size}
use Rattle.report.specs.Inner.{most_lines, weight, together, tally_of, in_places, LinesHeld}
use Rattle.report.proofs.tally.Laws.{tally_small, tally_snoc}

places : (ls : List Line) → length ls ≤ most_lines → length (in_places ls) ≡ most_lines
unfolding in_places
places ls h =
    let shorts : List Line = replicate (most_lines - length ls) Short in
    omega (arith, h, length-append ls shorts, length-replicate {A = Line} (most_lines - length ls) Short)

-- A line in the first place that is free.
next_place : (ls : List Line) (l : Line) → length ls < most_lines → in_places (ls ++ l ∷ []) ≡ set (in_places ls) (length ls) l
unfolding in_places
next_place ls l h =
    let behind : List Line = replicate (most_lines - (length ls + 1)) Short in
    let free : most_lines - length ls ≡ suc (most_lines - (length ls + 1)) = omega (arith, h) in
    ap (λ (n : ℕ). (ls ++ l ∷ []) ++ replicate (most_lines - n) Short) (length-append ls (l ∷ []))
    ∙ append_assoc ls (l ∷ []) behind
    ∙ sym (ap (λ (n : ℕ). set (ls ++ replicate n Short) (length ls) l) free ∙ set-append_seam ls Short behind l)

module _ (held : List Line) (n : ℕ) {t : Tally} (told : t ≡ tally_of (take n held)) where
  pub tally_few : n ≤ most_lines → t.size ≤ number_row_size * most_lines
  tally_few h = tally_small (take n held) told (omega (arith, length-take n held))

  pub tally_more : (l : Line) {u : Tally} → u ≡ together t (weight l) → n < length held → u ≡ tally_of (take (n + 1) (set held n l))
  tally_more l e h =
      e ∙ ap (λ (k : Tally). together k (weight l)) told ∙ tally_snoc (take n held) l ∙ ap tally_of (sym (take_more_set held n l h))

module _ {held : List Line} {n : ℕ} {t : Tally} (lines : LinesHeld held n t) where
  pub held_few : t.size ≤ number_row_size * most_lines
  held_few = tally_few held n (sym lines.sum) lines.most

  pub one_more : (l : Line) {u : Tally} → u ≡ together t (weight l) → n < most_lines → LinesHeld (set held n l) (n + 1) u
  one_more l e h =
      let room : length held ≡ most_lines = ap length (sym lines.rest) ∙ places (take n held) (omega (arith, lines.used, h)) in
      let more : take (n + 1) (set held n l) ≡ take n held ++ l ∷ [] = take_more_set held n l (omega (arith, room, h)) in
      record {
        most = omega (arith, h);
        used = omega (arith, length-take (n + 1) (set held n l), length-set held n l, room, h);
        rest =
            ap in_places more
            ∙ next_place (take n held) l (omega (arith, lines.used, h))
            ∙ (λ i. set (lines.rest i) (lines.used i) l);
        sum = sym (tally_more held n (sym lines.sum) l e (omega (arith, room, h)));
      }
