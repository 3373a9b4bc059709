-- The last byte decides, or else those before it do.
use mathlib.Core.Path.{◌≡◌, sym, ap, ◌∙◌}
use mathlib.Core.List.{List}
use Prim.Native.Nat.{ℕ, ◌-◌, ◌≤◌}
use native.Mathlib.Omega.{arith}
use lib.ListN.{length, take, get_or}
use lib.Seq.{length-take-le}
use Rattle.catalogue.proofs.record.Laws.{no_key, last_like, key_unlike}
use Rattle.catalogue.proofs.record.has_key.Goals as goal

size : (key : List ℕ) → 1 ≤ length key → length (take (length key - 1) key) ≡ length key - 1
size key h = length-take-le (length key - 1) key (omega arith)

pub returns-in_default : goal.returns-in_default
returns-in_default c = no_key _ _ c.in_default.len_below

pub returns-then-bytes-front : goal.returns-then-bytes-front
returns-then-bytes-front c =
    sym (key_unlike _ _ (length c.args.key.now - 1) (omega arith) (λ h e. omega (arith, size c.args.key.now c.in-len1-up.len_at_least)))

pub returns-then-bytes-front-2 : goal.returns-then-bytes-front-2
returns-then-bytes-front-2 c =
    sym
    (key_unlike _ _ (length c.args.key.now - 1) (omega arith)
    (λ h e. c.if-bytes-front-2.true (ap (λ i. get_or c.args.bytes.now i 0) (size c.args.key.now c.in-len1-up.len_at_least) ∙ sym e)))

pub returns : goal.returns
returns c =
    let last = size c.args.key.now c.in-len1-up.len_at_least in
    c.starts_with.ensures.value
    ∙ sym
    (last_like _ _ (length c.args.key.now - 1) (omega arith) (omega (arith, last))
    (sym (sym (ap (λ i. get_or c.args.bytes.now i 0) last) ∙ c.if-bytes-front-2.false)))
