-- So far each case answered that there may be another.
use Rattle.std.proofs.Common.{◌≡◌, true, Ok, List, length}
use Rattle.std.specs.List.{FoldsTo}
use Rattle.vector_io.proofs.run_cases.Given as goal

abbrev pub invariant-loop-turn : goal.invariant-loop-turn
invariant-loop-turn g l =
    goal.F-IsAlwaysCallable g l.next_case
    × ((turns : List (Unit {0}))
    × (length turns ≡ l._turn)
    × FoldsTo (λ f turn h. goal.F-step g f (Ok true) h) l.fn.next_case turns l.next_case)
