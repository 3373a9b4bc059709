-- One more case answered that there may be another.
use Rattle.std.proofs.Common.{◌≡◌, rules, arith, of_calls, Ok, true, [], ◌∷◌, ◌++◌, length-append}
use Rattle.std.proofs.lemmas.Fn.{FoldsTo-push}
use Rattle.vector_io.proofs.run_cases.Goals as goal

pub loop-turn-preserved : goal.loop-turn-preserved
loop-turn-preserved g c =
    let before = c.loop-turn.invariant.1 in
    let answered : c.next_case.result ≡ Ok true = search rules in
    (search of_calls, (before.0 ++ (tt ∷ []), omega (arith, length-append before.0 (tt ∷ [])), FoldsTo-push _ _ _ _ tt _ before.2 (search rules)))
