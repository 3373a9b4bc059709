-- Below `low` the keys are too small, from `high` on too large.
use Rattle.std.proofs.Common.{ℕ, ◌<◌, ◌≤◌, ◌-◌, length, get_or}
use Rattle.catalogue.proofs.search.row_with.Given as goal

abbrev pub invariant-loop-low : goal.invariant-loop-low
invariant-loop-low g l =
    record {
      order : l.low ≤ l.high;
      within : l.high ≤ length l.rows;
      below : (i : ℕ) (e : g.row.R.Denot) → i < l.low → g.R.Row.key (get_or l.rows i e) < l.key;
      above : (i : ℕ) (e : g.row.R.Denot) → l.high ≤ i → i < length l.rows → l.key < g.R.Row.key (get_or l.rows i e);
    }

abbrev pub decreases-loop-low : goal.decreases-loop-low
decreases-loop-low g l = l.high - l.low
