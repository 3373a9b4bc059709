-- After i turns the first i places behind the head hold the bytes held, as many as there are.
use Rattle.std.proofs.Common.{◌≡◌, min, length, take, refl, ap, ◌∙◌, arith, length-take-le}
use lib.Seq.{paste}
use Rattle.std.specs.Int.{w64, to_be_bytes}
use Rattle.stream.specs.State.{held_place, most_held, bytes_of}
use Rattle.stream.proofs.state.Bytes.{put_on, put_past, over_zeros, is_head, bytes_put}
use Rattle.stream.proofs.state.ArrayU8STATEBYTESFromStreamState.from.Goals as goal
use Rattle.stream.proofs.state.ArrayU8STATEBYTESFromStreamState.from.Goals.{then-i-count, else-i-count}

pub loop-i-preserved : goal.loop-i-preserved
loop-i-preserved c =
    let s = c.sound.result.state in
    let i = c.loop-i.i in
    let place : c.copy_from_slice.new.self ≡ to_be_bytes w64 s.place = c.copy_from_slice.ensures.after ∙ c.to_be_bytes.ensures in
    let d = over_zeros c.copy_from_slice.new.self s in
    let size : length d ≡ 24 = ap length (is_head s place) in
    let held = take most_held s.held in
    elim c.if-i-count.branch [
      | then-i-count w ↦ w.bytes-is ∙ put_on d held s.count i c.loop-i.invariant w.if-i-count.true refl (omega (arith, size)) (omega arith)
      | else-i-count w ↦ w.bytes-is ∙ put_past d held s.count i c.loop-i.invariant w.if-i-count.false
    ]

pub returns : goal.returns
returns c =
    let s = c.sound.result.state in
    let place : c.copy_from_slice.new.self ≡ to_be_bytes w64 s.place = c.copy_from_slice.ensures.after ∙ c.to_be_bytes.ensures in
    let size = length-take-le most_held s.held (omega arith) in
    let all : min c.loop-i.i s.count ≡ s.count = omega (arith, size) in
    c.loop-i.invariant
    ∙ (λ k. paste (is_head s place k) held_place (take most_held s.held) (all k))
    ∙ bytes_put s (omega arith) (omega arith)
    ∙ ap bytes_of c.sound.ensures
