-- A refusal is handed on; with none, the frame obeys the rules and its parts are those of the definition.
use Rattle.std.proofs.Common.{sym, ap, ◌∙◌, arith, take, length}
use Rattle.std.proofs.Math.Seq.{length-take-le}
use Rattle.std.proofs.lemmas.Result.{err_from_is_err_and}
use Rattle.frame.specs.Response.{response_size}
use Rattle.frame.specs.Refusal.{accepted}
use Rattle.frame.specs.Frame.{parts_at}
use Rattle.frame.specs.Reader.{read_refusal, parts_of, read_frame}
use Rattle.frame.proofs.refusal.Laws.{refused_by}
use Rattle.frame.proofs.response.Laws.{response_size_le}
use Rattle.frame.proofs.reader.Laws.{obeys, read_accepts}
use Rattle.frame.proofs.reader.read_frame.Goals as goal

pub returns-in_err-accept_runs : goal.returns-in_err-accept_runs
unfolding read_frame
returns-in_err-accept_runs c =
    let first = c.args.first.now in
    let response = c.args.response.now in
    let p = err_from_is_err_and c.from_residual.result c.from_residual.ensures.1 in
    rw (p.1, p.2) (sym (refused_by (read_refusal first response) (parts_of first response) _ c.in_err-accept_runs.ensures))

pub slice_bounds-at-end : goal.slice_bounds-at-end
slice_bounds-at-end c =
    let response = c.args.response.now in
    let within = response_size_le c.kind_asked-kind.result (length response) in
    sym (length-take-le _ response (omega (arith, c.response_size-size.ensures, within)))

pub at-requires : goal.at-requires
at-requires c =
    let o = obeys c.args.first.now c.args.response.now (sym c.in_ok-accept_runs.ensures) in
    let size = c.response_size-size.ensures in
    let within = response_size_le c.kind_asked-kind.result (length c.args.response.now) in
    let cut = length-take-le c.response_size-size.result c.args.response.now (omega (arith, size, within)) in
    record {
      long = omega (arith, c.header_size.ensures, o.long);
      short = omega (arith, o.most, cut, size, within);
    }

pub returns : goal.returns
unfolding parts_of
returns c =
    let first = c.args.first.now in
    let response = c.args.response.now in
    let kind = c.kind_asked-kind.ensures in
    let header = c.header_size.ensures in
    let size = c.response_size-size.ensures ∙ ap (λ k. response_size k (length response)) kind in
    ap accepted (c.at.ensures ∙ (λ i. parts_at (header i) first (kind i) (take (size i) response)))
    ∙ sym (read_accepts first response (sym c.in_ok-accept_runs.ensures))
