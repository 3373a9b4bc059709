-- The bytes read are the key's, and the numbers are small.
use Prim.Native.Nat.{◌+◌, ◌*◌, ◌%◌}
use Rattle.catalogue.specs.Inner.{filter_bits, kind_step, key_step, last_step, bit_of}
use Rattle.catalogue.proofs.filter.bit_of.Goals as goal

pub returns : goal.returns
unfolding bit_of
returns c =
    let near = c.two_at-near.ensures in
    let far = c.two_at-far.ensures in
    λ i. (c.byte_at-kind.ensures i * kind_step + near i * key_step + far i + c.byte_at-last.ensures i * last_step) % filter_bits
