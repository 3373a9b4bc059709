-- Laws of a tally.
use mathlib.Core.Path.{◌≡◌, sym}
use mathlib.Core.List.{List, [], ◌∷◌, ◌++◌}
use Prim.Native.Nat.{◌*◌, ◌≤◌}
use native.Mathlib.Omega.{arith}
use lib.ListN.{length}
use Rattle.report.specs.declared.line.Line.{Line}
use Rattle.report.specs.declared.tally.Tally.{Tally}
use Rattle.report.specs.Line.{is_flagged, is_unknown}
use Rattle.report.specs.Rows.{number_row_size}
use Rattle.report.specs.Inner.{most_lines, weight, together, tally_of}
use Rattle.report.proofs.verdict.Laws.{any_snoc}
use Rattle.report.proofs.rows.Laws.{rows_length, rows_snoc}

-- One line more.
pub tally_snoc : (ls : List Line) (l : Line) → together (tally_of ls) (weight l) ≡ tally_of (ls ++ l ∷ [])
unfolding tally_of
tally_snoc ls l =
    λ i.
    record {
      flagged = sym (any_snoc is_flagged ls l) i;
      unknown = sym (any_snoc is_unknown ls l) i;
      size = sym (rows_snoc ls l) i;
    }

-- So few rows are short enough to count one more.
pub tally_small : (ls : List Line) {t : Tally} → t ≡ tally_of ls → length ls ≤ most_lines → t.size ≤ number_row_size * most_lines
unfolding tally_of
tally_small ls e h = omega (arith, rows_length ls, size e)
  where
    size : {t u : Tally} → t ≡ u → t.size ≡ u.size
    size e i = (e i).size
