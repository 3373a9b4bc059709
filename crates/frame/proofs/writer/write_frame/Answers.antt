-- A refusal leaves `out` as it was; with none, the two runs fit and stand one behind the other.
use Rattle.std.proofs.Common.{◌≡◌, refl, sym, ap, ◌∙◌, List, ◌++◌, ℕ, ◌+◌, ◌≤◌, arith, length, length-append}
use Rattle.std.proofs.lemmas.Result.{err_from_is_err_and}
use Rattle.frame.specs.Bytes.{placed}
use Rattle.frame.specs.CheckByte.{check_byte, sealed}
use Rattle.frame.specs.Response.{sent}
use Rattle.frame.specs.Header.{kind_asked}
use Rattle.frame.specs.Refusal.{accepted, no_refusal}
use Rattle.frame.specs.Frame.{runs, out_written, most_bytes}
use Rattle.frame.specs.Writer.{frame_of, write_refusal, write_frame}
use Rattle.frame.proofs.bytes.Placed.{joined}
use Rattle.frame.proofs.seal.Laws.{length_sealed}
use Rattle.frame.proofs.refusal.Laws.{refused_by}
use Rattle.frame.proofs.writer.Laws.{writes, write_accepts}
use Rattle.frame.proofs.writer.write_frame.Goals as goal

-- The two runs of what was lent.
abbrev first_run : List ℕ → List ℕ → List ℕ
first_run header body = sealed (header ++ body)

abbrev second_run : List ℕ → List ℕ → List ℕ
second_run header response = sent (kind_asked header) response

pub returns-in_err-accept_parts : goal.returns-in_err-accept_parts
unfolding write_frame
returns-in_err-accept_parts c =
    let a = c.args in
    let out = a.out.now in
    let p = err_from_is_err_and c.from_residual.result c.from_residual.ensures.1 in
    let refusal = write_refusal a.header.now a.body.now a.response.now (length out) in
    let answer = refused_by refusal (frame_of a.header.now a.body.now a.response.now) _ c.in_err-accept_parts.ensures in
    record { told = rw (p.1, p.2) (sym (ap runs answer)); left = sym (ap (λ o. out_written o out) answer) }

-- Where nothing was refused, both runs fit the lent output and are at most twelve bytes.
roomy :
    (header body response : List ℕ) (room : ℕ)
    → write_refusal header body response room ≡ no_refusal
    → (length (first_run header body) + length (second_run header response) ≤ room)
    × (length (first_run header body) + length (second_run header response) ≤ most_bytes)
unfolding frame_of
roomy header body response room e = let w = writes header body response room e in (w.fits, w.most)

pub put_sealed-first-requires : goal.put_sealed-first-requires
put_sealed-first-requires c =
    let a = c.args in
    let room = roomy a.header.now a.body.now a.response.now (length a.out.now) (sym c.in_ok-accept_parts.ensures) in
    omega (arith, room.0, length_sealed check_byte (a.header.now ++ a.body.now), length-append a.header.now a.body.now)

pub put_response-behind-requires : goal.put_response-behind-requires
put_response-behind-requires c =
    let a = c.args in
    let room = roomy a.header.now a.body.now a.response.now (length a.out.now) (sym c.in_ok-accept_parts.ensures) in
    let put = c.put_sealed-first in
    rw c.kind_asked.ensures (omega (arith, room.0, put.ensures.size, put.auto))

pub invariant_of-result : goal.invariant_of-result
invariant_of-result c =
    let a = c.args in
    let room = roomy a.header.now a.body.now a.response.now (length a.out.now) (sym c.in_ok-accept_parts.ensures) in
    let second = c.put_response-behind.ensures.size ∙ ap (λ k. length (sent k a.response.now)) c.kind_asked.ensures in
    record { short = omega (arith, room.1, c.put_sealed-first.ensures.size, second) }

pub returns : goal.returns
unfolding frame_of
returns c =
    let a = c.args in
    let header = a.header.now in
    let body = a.body.now in
    let response = a.response.now in
    let out = a.out.now in
    let unrefused = sym c.in_ok-accept_parts.ensures in
    let room = (roomy header body response (length out) unrefused).0 in
    let first = c.put_sealed-first.ensures in
    let second = c.put_response-behind.ensures in
    let kind = ap (λ k. sent k response) c.kind_asked.ensures in
    let answer = write_accepts header body response (length out) unrefused in
    let frame = frame_of header body response in
    let left : placed out 0 (first_run header body ++ second_run header response) ≡ out_written (accepted frame) out = refl in
    let behind = second.placed ∙ ap (placed _ _) kind in
    record {
      told = (λ i. accepted (record { first = first.size i; response = (second.size ∙ ap length kind) i })) ∙ sym (ap runs answer);
      left =
          joined out 0 (first_run header body) (second_run header response) first.placed behind (omega (arith, first.size)) (omega (arith, room))
          ∙ left
          ∙ sym (ap (λ o. out_written o out) answer);
    }
