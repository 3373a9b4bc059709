-- The whole number and the divisor are placed right behind the double.
use Rattle.std.proofs.Common.{ℕ, ◌+◌, List, ◌∷◌, refl, ap, ◌∙◌}
use Rattle.std.specs.Float.{binary64}
use Rattle.std.specs.Float.Ieee.{to_bits}
use Rattle.frame.specs.Bytes.{placed}
use Rattle.report.specs.Rows.{double_bytes, whole_bytes, divisor_bytes}
use Rattle.report.proofs.row.Laws.{length_big_endian, bytes_are, copied, parts_behind, whole_bits}
use Rattle.report.proofs.row.put_fraction.Goals as goal

pub returns-clause-placed : goal.returns-clause-placed
returns-clause-placed c =
    let a = c.args in
    let value = to_bits binary64 a.value in
    let first = c.put_body.ensures.placed ∙ ap (λ (u : List ℕ). placed a.out.now 0 (1 ∷ u)) (c.to_be_bytes.ensures ∙ bytes_are double_bytes value) in
    let whole = c.copy_from_slice.ensures.after ∙ c.to_be_bytes-2.ensures ∙ bytes_are whole_bytes _ in
    let divisor = c.copy_from_slice-2.ensures.after ∙ c.to_be_bytes-3.ensures ∙ bytes_are divisor_bytes a.divisor in
    parts_behind a.out.now 0 a.value a.above a.divisor (first, refl) (whole_bits c.requires.0)
    (copied _ (1 + double_bytes) whole_bytes _ whole (length_big_endian whole_bytes _))
    (copied _ (1 + double_bytes + whole_bytes) divisor_bytes _ divisor (length_big_endian divisor_bytes a.divisor))
    c.requires.1
