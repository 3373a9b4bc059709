-- The PRNs read of a record are used first, and zeros follow: so they do in a layout that was found.
use mathlib.Core.Path.{◌≡◌, sym, ap, ◌∙◌}
use mathlib.Core.List.{List, ◌++◌}
use Prim.Native.Nat.{ℕ, min, ◌-◌, ◌≤◌}
use native.Mathlib.Omega.{arith}
use lib.ListN.{length, take, replicate}
use lib.Seq.{length-take-le}
use Rattle.catalogue.specs.Record.{most_prns, prns_at, layout_count, layout_places, layout_row}
use Rattle.catalogue.specs.Lookup.{prns_used, in_sixteen, UsedFirst}
use Rattle.catalogue.proofs.record.Laws.{length_numbers}
use Rattle.catalogue.proofs.layout.Prns.{take_most, used_taken}

first_size : (n : ℕ) (r : List ℕ) → n ≤ most_prns → length (take n (layout_places r)) ≡ n
first_size n r h = length-take-le n (layout_places r) (omega (arith, h, length_numbers most_prns prns_at r))

pub read_first : (n : ℕ) (r : List ℕ) → n ≤ most_prns → UsedFirst n (prns_used n r)
unfolding prns_used in_sixteen
read_first n r h =
    let same : take n (prns_used n r) ≡ take n (layout_places r) = used_taken n r h in
    let size : length (take n (layout_places r)) ≡ n = first_size n r h in
    record {
      most = h;
      used = ap length same ∙ size;
      rest = ap in_sixteen same ∙ ap (λ (m : ℕ). take n (layout_places r) ++ replicate (most_prns - m) 0) size;
    }

-- What a layout holds in all its places: as many PRNs as the record's count says, at most sixteen, and zeros.
pub layout_whole : (r : List ℕ) → in_sixteen (layout_row r).prns ≡ prns_used (min (layout_count r) most_prns) r
unfolding layout_row prns_used in_sixteen
layout_whole r =
    let n = min (layout_count r) most_prns in
    let places = layout_places r in
    ap in_sixteen (sym (take_most (layout_count r) places (length_numbers most_prns prns_at r)))
    ∙ ap (λ (m : ℕ). take n places ++ replicate (most_prns - m) 0) (first_size n r (omega arith))
