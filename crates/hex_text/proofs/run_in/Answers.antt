-- The bytes of the text behind the length and the space.
use Rattle.std.proofs.Common.{◌≡◌, ◌-◌, ap, ◌∙◌, arith, List, ℕ, take, drop, length, min}
use Rattle.std.proofs.lemmas.List.{drop_min}
use Rattle.std.proofs.lemmas.Grind.{common_steps}
use Rattle.hex_text.specs.Digits.{byte_from, bytes_from, run_in}
use Rattle.hex_text.proofs.digits.Laws.{bytes_behind}
use Rattle.hex_text.proofs.run_in.Goals as goal

behind : (k : ℕ) (text : List ℕ) → k ≡ min 3 (length text) → take (length text - k) (drop k text) ≡ drop 3 text
behind k text e = let skipped = drop_min 3 text in grind (arith, common_steps)

pub returns : goal.returns
unfolding run_in
returns c =
    let text = c.args.text.now in
    let n = length c.args.run.now in
    c.counted.ensures
    ∙ (λ i. take ((c.from.ensures ∙ c.byte_from-n.ensures) i) (c.fill.ensures i))
    ∙ ap (λ (rest : List ℕ). take (byte_from text 0) (bytes_from rest n 0)) (behind c.min.result text c.min.ensures)
    ∙ ap (take (byte_from text 0)) (bytes_behind text 3 n 0)
