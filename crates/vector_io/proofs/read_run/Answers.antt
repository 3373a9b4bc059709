-- The text that was read has the digits of as many bytes as were asked for.
use Rattle.std.proofs.Common.{◌≡◌, ◌+◌, ◌*◌, ◌≤◌, sym, ◌∙◌, arith, take, length, length-take-le}
use Rattle.hex_text.proofs.digits.Laws.{first_bytes, bytes_before}
use Rattle.vector_io.proofs.read_run.Goals as goal

pub returns-clause-bytes : goal.returns-clause-bytes
returns-clause-bytes g c =
    let read = c.in_ok-got.ensures in
    let text = c.read_text.new.text in
    let got = c.in_ok-got.got in
    let n = c.args.n in
    let size : got ≡ n * 2 + 1 = omega (arith, read.part, c.from-n.ensures) in
    let within : got ≤ length text = read.within.0 in (
      take got text,
      length-take-le got text within ∙ size,
      read.bytes,
      c.counted.ensures ∙ (λ i. take (c.from-n.ensures i) (c.fill.ensures i))
          ∙ first_bytes text n _ 0 (omega arith) ∙ sym (bytes_before text n 0 got (omega arith)),
    )
