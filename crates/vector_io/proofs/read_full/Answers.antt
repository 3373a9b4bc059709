use Rattle.std.proofs.Common.{◌≡◌, ℕ, ◌+◌, ◌-◌, ◌≤◌, List, ◌++◌, rules, length, take, sym, ap, ◌∙◌, subst, length-take-le}
use Rattle.std.proofs.Math.Seq.{take-append-add}
use Rattle.std.proofs.lemmas.List.{take-append-le}
use Rattle.std.specs.Io.KnownBytes.{Consumes}
use Rattle.std.proofs.KnownBytes.{Consumes-trans}
use borrow.Rule.Slice.PartMut.{put_mid, post_of}
use Rattle.vector_io.proofs.read_full.Goals as goal

-- What was filled before, and then n bytes of the part that was lent behind it.
filled : (a k n : ℕ) (xs part : List ℕ) → a ≤ length xs → n ≤ length part → take a xs ++ take n part ≡ take (a + n) (put_mid a k xs part)
filled a k n xs part within fits =
    let front = take a xs in
    let rest = part ++ post_of a k xs in
    ap (λ l. front ++ l) (sym (take-append-le n part _ fits))
    ∙ sym (take-append-add front rest n)
    ∙ ap (λ m. take (m + n) (front ++ rest)) (length-take-le a xs within)

pub loop-done-preserved : goal.loop-done-preserved
loop-done-preserved g c =
    let before = c.loop-done.invariant in
    let read = c.in_ok-n.ensures in
    let all = filled c.loop-done.done (length c.loop-done.buf - c.loop-done.done) c.in_ok-n.n c.loop-done.buf _ before.1 read.bound.0 in
    (search rules, search rules, subst (Consumes _ _) all (Consumes-trans _ _ _ _ _ before.2 read.bytes.0))
