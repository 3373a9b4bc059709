-- What was written into the buffer is what is printed.
use Rattle.std.proofs.Common.{◌≡◌, ◌∙◌, subst, OnOk, take, List, ℕ}
use Rattle.std.specs.Io.KnownBytes.{Appends}
use Rattle.hex_text.specs.Digits.{text_of}
use Rattle.hex_text.proofs.digits.Text.{written}
use Rattle.vector_io.proofs.print_bytes.Goals as goal

pub returns : goal.returns
returns g c =
    let wrote = c.write_text-n.ensures in
    let text : c.counted.result.now ≡ take 640 (text_of c.args.bytes.now) = c.counted.ensures ∙ written _ _ _ _ wrote.lent wrote.answer in
    let contents = g.W.Write.contents in
    subst (λ (l : List ℕ). OnOk c.write_all.result (Appends (contents c.args.out.now) (contents c.write_all.new.self) l)) text c.write_all.ensures.bytes
