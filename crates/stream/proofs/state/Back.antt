-- The bytes of a position give it back.
use Rattle.std.proofs.Common.{◌≡◌, ℕ, ◌-◌, Bool, true, false, cond, not, eqb, List, [], ◌++◌, length}
use Rattle.std.proofs.Common.{take, replicate, refl, ap, ◌∙◌, take_at}
use Rattle.std.proofs.lemmas.Nat.{from_be_bytes-to_be_bytes_8}
use Rattle.stream.specs.Reader.{Position, fresh, or_none}
use Rattle.stream.specs.State.{most_held, position_in, bytes_of, fresh_bytes}
use Rattle.stream.specs.Calls.{by_value, by_bytes}
use Rattle.stream.specs.Cuts.{BetweenCalls, Keeping}

flag_back : (t : Bool) → not (eqb (cond t 1 0) 0) ≡ t
flag_back true = refl
flag_back false = refl

pub bytes_back : (p : Position) → BetweenCalls p → position_in (bytes_of p) ≡ p
unfolding position_in bytes_of
bytes_back p between =
    let held : List ℕ = p.begun ++ replicate (most_held - length p.begun) 0 in
    let kept : or_none (take (length p.begun) held) ≡ p.begun =
    ap or_none (take_at p.begun (replicate (most_held - length p.begun) 0) (length p.begun) refl)
    ∙ ap (λ (t : Bool). cond t p.begun []) between.open_record in
    λ i.
    record {
      place = from_be_bytes-to_be_bytes_8 p.place between.place i;
      stopped = flag_back p.stopped i;
      begun = kept i;
    }

fresh_is : bytes_of fresh ≡ fresh_bytes
unfolding bytes_of
fresh_is = refl

-- "24 zeros are a fresh state"
pub bytes_keep : Keeping by_bytes fresh_bytes
bytes_keep = record { back = bytes_back; starts = fresh_is }

pub value_keeps : Keeping by_value fresh
value_keeps = record { back = λ p between. refl; starts = refl }
