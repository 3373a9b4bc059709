-- By the kind, then by the lengths, then by the room.
use Rattle.std.proofs.Common.{◌≡◌, ℕ, ◌+◌, ◌-◌, length, take, drop, sym, ap, ◌∙◌, arith, length-take-le}
use Rattle.frame.specs.Bytes.{placed}
use Rattle.frame.proofs.bytes.Placed.{placed_start}
use Rattle.stream.specs.Record.{frame_kind, frame_record_size, kind_of, first_length, second_length, runs_at}
use Rattle.stream.specs.Inner.{kind_at}
use Rattle.stream.proofs.record.Laws.{frame_at, fit_within, first_size, second_size}
use Rattle.stream.proofs.reader.Gives.{told_so, given_told, gives_unknown, whole_frame_lem, gives_wrong, gives_short, gives_frame, runs_placed}
use Rattle.stream.proofs.reader.give.Goals as goal

pub returns-in_default : goal.returns-in_default
returns-in_default c =
    let a = c.args in
    let so =
    told_so a.out.now
    (gives_unknown a.bytes.now (length a.out.now) c.requires
    (λ e. c.in_default.not-Frame (c.from.ensures ∙ ap kind_at (c.byte_at.ensures ∙ e)))) in
    record { told = so.0; left = so.1 }

-- the kind is a frame's, and its record is whole
pub lengths_in-requires : goal.lengths_in-requires
lengths_in-requires c = whole_frame_lem c.args.bytes.now 0 c.requires (sym c.byte_at.ensures ∙ frame_at _ c.in-Frame.ensures)

pub returns-in_default-lengths_in : goal.returns-in_default-lengths_in
returns-in_default-lengths_in c =
    let a = c.args in
    let kind : kind_of a.bytes.now ≡ frame_kind = sym c.byte_at.ensures ∙ frame_at _ c.in-Frame.ensures in
    let so = told_so a.out.now (gives_wrong a.bytes.now (length a.out.now) c.requires kind c.in_default-lengths_in.ensures) in
    record { told = so.0; left = so.1 }

pub returns-then-out-size : goal.returns-then-out-size
returns-then-out-size c =
    let a = c.args in
    let kind : kind_of a.bytes.now ≡ frame_kind = sym c.byte_at.ensures ∙ frame_at _ c.in-Frame.ensures in
    let runs = c.in-Some.ensures in
    let so =
    told_so a.out.now
    (gives_short a.bytes.now (length a.out.now) c.requires kind runs.fit (omega (arith, c.if-out-size.true, runs.first, runs.response))) in
    record { told = so.0; left = so.1 }

pub slice_bounds-copy_from_slice-end-3 : goal.slice_bounds-copy_from_slice-end-3
slice_bounds-copy_from_slice-end-3 c =
    let whole = whole_frame_lem c.args.bytes.now 0 c.requires (sym c.byte_at.ensures ∙ frame_at _ c.in-Frame.ensures) in
    omega (arith, whole, c.in-Some.runs.short)

pub returns : goal.returns
returns c =
    let a = c.args in
    let r = a.bytes.now in
    let kind : kind_of r ≡ frame_kind = sym c.byte_at.ensures ∙ frame_at _ c.in-Frame.ensures in
    let whole : length r ≡ frame_record_size = whole_frame_lem r 0 c.requires kind in
    let runs = c.in-Some.ensures in
    let fit = fit_within r runs.fit in
    let n = c.in-Some.runs.first + c.in-Some.runs.response in
    let size : n ≡ first_length r + second_length r = (λ i. runs.first i + runs.response i) in
    let part : runs_at + n - runs_at ≡ first_length r + second_length r = omega (arith, size) in
    let run : c.copy_from_slice.new.self ≡ take (first_length r + second_length r) (drop runs_at r) =
    c.copy_from_slice.ensures.after ∙ ap (λ (k : ℕ). take k (drop runs_at r)) part in
    let long : length c.copy_from_slice.new.self ≡ n = c.copy_from_slice.ensures.len ∙ length-take-le n a.out.now (omega arith) in
    let so =
    given_told a.out.now
    (gives_frame r (length a.out.now) c.requires kind runs.fit (omega (arith, size, c.if-out-size.false)))
    (runs.first ∙ sym (first_size r whole fit))
    (runs.response ∙ sym (second_size r whole fit))
    (placed_start a.out.now c.copy_from_slice.new.self n (sym long)
    ∙ ap (placed a.out.now 0) run
    ∙ runs_placed r (length a.out.now) c.requires kind runs.fit a.out.now) in
    record { told = so.0; left = so.1 }
