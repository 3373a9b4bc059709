-- A refusal leaves `out` as it was; with none, header, data and their sum fit and stand one behind the other.
use Rattle.std.proofs.Common.{◌≡◌, sym, ap, ◌∙◌, List, ◌++◌, append-nil, ℕ, ◌+◌, ◌<◌, arith, length, length-append}
use Rattle.std.proofs.lemmas.Result.{err_from_is_err_and}
use Rattle.frame.specs.Bytes.{placed}
use Rattle.frame.specs.Seal.{sealed_by}
use Rattle.frame.specs.Refusal.{accepted, no_refusal}
use Rattle.frame.specs.Frame.{runs, out_written}
use Rattle.frame.specs.Iso.{sum_byte, iso_frame, iso_write_refusal, write_iso}
use Rattle.frame.proofs.seal.Laws.{length_sealed}
use Rattle.frame.proofs.refusal.Laws.{refused_by}
use Rattle.frame.proofs.iso.Laws.{writes, write_accepts, frame_size_lem}
use Rattle.frame.proofs.iso.write_iso.Goals as goal

pub returns-in_err-accept_parts : goal.returns-in_err-accept_parts
unfolding write_iso
returns-in_err-accept_parts c =
    let a = c.args in
    let out = a.out.now in
    let p = err_from_is_err_and c.from_residual.result c.from_residual.ensures.1 in
    let refusal = iso_write_refusal a.header.now a.body.now (length out) in
    let answer = refused_by refusal (iso_frame a.header.now a.body.now) _ c.in_err-accept_parts.ensures in
    record { told = rw (p.1, p.2) (sym (ap runs answer)); left = sym (ap (λ o. out_written o out) answer) }

-- Where nothing was refused, header and data, and one byte more, are at most twelve and fit the lent output.
roomy : (header body : List ℕ) (room : ℕ) → iso_write_refusal header body room ≡ no_refusal → length header + length body < room
roomy header body room e = omega (arith, (writes header body room e).fits, frame_size_lem header body)

pub put_sealed-first-requires : goal.put_sealed-first-requires
put_sealed-first-requires c = roomy c.args.header.now c.args.body.now (length c.args.out.now) (sym c.in_ok-accept_parts.ensures)

pub invariant_of-result : goal.invariant_of-result
invariant_of-result c =
    let header = c.args.header.now in
    let body = c.args.body.now in
    let most = (writes header body (length c.args.out.now) (sym c.in_ok-accept_parts.ensures)).most in
    let size = length_sealed sum_byte (header ++ body) in
    record { short = omega (arith, most, frame_size_lem header body, c.put_sealed-first.ensures.size, size, length-append header body) }

pub returns : goal.returns
unfolding iso_frame
returns c =
    let a = c.args in
    let out = a.out.now in
    let put = c.put_sealed-first.ensures in
    let answer = write_accepts a.header.now a.body.now (length out) (sym c.in_ok-accept_parts.ensures) in
    let run = sealed_by sum_byte (a.header.now ++ a.body.now) in
    record {
      told = (λ i. accepted (record { first = put.size i; response = 0 })) ∙ sym (ap runs answer);
      left = put.placed ∙ ap (placed out 0) (sym (append-nil run)) ∙ sym (ap (λ o. out_written o out) answer);
    }
