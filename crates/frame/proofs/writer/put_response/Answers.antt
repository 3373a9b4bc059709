-- The response is placed; a check byte seals it if its kind has one.
use Rattle.std.proofs.Common.{◌≡◌, refl, sym, ap, ◌∙◌, true, false, ◌+◌, arith, rules, length, List, ℕ}
use Rattle.frame.specs.declared.response.ResponseKind.{ResponseKind}
use Rattle.frame.specs.Bytes.{placed}
use Rattle.frame.specs.CheckByte.{check_byte}
use Rattle.frame.specs.Response.{sent, is_checked}
use Rattle.frame.proofs.bytes.Placed.{tail_placed}
use Rattle.frame.proofs.seal.Laws.{length_sealed, sealed_behind}
use Rattle.frame.proofs.response.Laws.{sent_checked, sent_plain, sent_longer}
use Rattle.frame.proofs.writer.put_response.Goals as goal

checked_size : (kind : ResponseKind) (response : List ℕ) → is_checked kind ≡ true → length (sent kind response) ≡ length response + 1
checked_size kind response e = ap length (sent_checked kind response e) ∙ length_sealed check_byte response

pub put-requires : goal.put-requires
put-requires c = omega (arith, sent_longer c.args.kind c.args.response.now)

pub seal-requires : goal.seal-requires
seal-requires c =
    let yes : is_checked c.args.kind ≡ true = search rules in
    omega (arith, checked_size c.args.kind c.args.response.now yes, c.put.auto)

pub returns-then-eq : goal.returns-then-eq
returns-then-eq c =
    let a = c.args in
    let response = a.response.now in
    let yes : is_checked a.kind ≡ true = search rules in
    let size = checked_size a.kind response yes in
    record {
      placed =
          sealed_behind check_byte a.out.now a.at response (tail_placed _ _ response c.put.ensures) c.seal.ensures refl refl (omega (arith, size))
          ∙ ap (placed a.out.now a.at) (sym (sent_checked a.kind response yes));
      size = sym size;
    }

pub returns-else-eq : goal.returns-else-eq
returns-else-eq c =
    let a = c.args in
    let no : is_checked a.kind ≡ false = search rules in
    let plain = sent_plain a.kind a.response.now no in
    record {
      placed = tail_placed _ _ a.response.now c.put.ensures ∙ ap (placed a.out.now a.at) (sym plain);
      size = ap length (sym plain);
    }
