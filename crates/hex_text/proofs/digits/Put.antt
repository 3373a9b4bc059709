-- A list put into a buffer one element at a time, from its start.
use mathlib.Core.Path.{◌≡◌}
use mathlib.Core.List.{List, [], ◌∷◌, ◌++◌}
use Prim.Native.Nat.{ℕ, suc, ◌+◌, ◌<◌}
use native.Mathlib.Numerals.{add-one}
use lib.ListN.{length, drop, get_or, set}
use lib.Seq.{drop-cons, append_snoc, set_at}

pub put_next :
    (done start : List ℕ) (i y : ℕ)
    → length done ≡ i
    → i < length start
    → set (done ++ drop i start) i y ≡ (done ++ y ∷ []) ++ drop (i + 1) start
put_next done start i y here room =
    rw (add-one, drop-cons start i 0 room, append_snoc) (set_at done (get_or start i 0) (drop (suc i) start) y i here)
