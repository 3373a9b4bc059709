-- A refusal is handed on; with none, the message obeys the rules and its parts are those of the definition.
use Rattle.std.proofs.Common.{sym, ap, ◌∙◌, arith}
use Rattle.std.proofs.lemmas.Result.{err_from_is_err_and}
use Rattle.frame.specs.Refusal.{accepted}
use Rattle.frame.specs.Iso.{iso_read_refusal, iso_parts, read_iso}
use Rattle.frame.proofs.refusal.Laws.{refused_by}
use Rattle.frame.proofs.iso.Laws.{obeys, read_accepts}
use Rattle.frame.proofs.iso.read_iso.Goals as goal

pub returns-in_err-accept_run : goal.returns-in_err-accept_run
unfolding read_iso
returns-in_err-accept_run c =
    let run = c.args.run.now in
    let p = err_from_is_err_and c.from_residual.result c.from_residual.ensures.1 in
    rw (p.1, p.2) (sym (refused_by (iso_read_refusal run) (iso_parts run) _ c.in_err-accept_run.ensures))

pub at-requires : goal.at-requires
at-requires c =
    let o = obeys c.args.run.now (sym c.in_ok-accept_run.ensures) in
    record { long = o.long; short = omega (arith, o.most) }

pub returns : goal.returns
unfolding iso_parts
returns c = ap accepted c.at.ensures ∙ sym (read_accepts c.args.run.now (sym c.in_ok-accept_run.ensures))
