-- Sentences of document 01 on frames that follow from the definitions.
use mathlib.Core.Path.{◌≡◌, refl, sym, ap, ◌∙◌}
use mathlib.Core.Logic.{◌↔◌, ◌⊎◌, ⊎_elim}
use mathlib.Core.Bool.{Bool, true, cond, ◌||◌, not}
use mathlib.Core.List.{List, [], ◌∷◌}
use Prim.Native.Nat.{ℕ, ◌+◌, ◌-◌, ◌≤◌, ◌<◌, ◌/◌}
use native.Mathlib.Omega.{arith}
use borrow.Author.Tests.{eq-eqb, eqb-true}
use lib.Dec.{eqb, eqb→eq}
use lib.ListN.{length, take, get_or}
use Rattle.frame.specs.declared.response.ResponseKind.{ResponseKind}
use Rattle.frame.specs.declared.response.ResponseKind.TheVariants.{Empty, Single, Several, Data, Unassigned}
use Rattle.frame.specs.Bytes.{Bytes}
use Rattle.frame.specs.CheckByte.{feed, register, check_byte, is_sealed, all_ones, residue}
use Rattle.frame.specs.Response.{kind_number, is_checked, kind_empty}
use Rattle.frame.specs.Header.{bit_k, message_type, type_table, response_kind, kind_asked, header_size, one_byte_form, three_byte_form}
use Rattle.frame.specs.Frame.{frame_size, limit, most_bytes}
use Rattle.frame.specs.Writer.{frame_of}
use Rattle.frame.proofs.bytes.Laws.{below, bytes_take}
use Rattle.frame.proofs.check_byte.Laws.{register_lt, register_append, complement_feeds, feeds_complement}
use Rattle.frame.proofs.seal.Laws.{unsnoc, last_decides}
use Rattle.frame.proofs.header.Laws.{one_or_three}
use Rattle.frame.proofs.writer.Laws.{frame_total}

-- "Header, data and check byte together leave C4h in the register", and nothing else does: a run of at least one byte ends in its
-- check byte exactly when its register ends at C4h.
pub residue_lem : (s : List ℕ) → Bytes s → 0 < length s → (is_sealed s ≡ true) ↔ (register all_ones s ≡ residue)
unfolding check_byte register
residue_lem s b h = (
  λ e. ends ∙ ap (feed r) (eqb-true last (check_byte front) (sym (last_decides check_byte s h) ∙ e)) ∙ complement_feeds r small,
  λ e. last_decides check_byte s h ∙ eq-eqb last (check_byte front) (feeds_complement r last small (b (length s - 1)) (sym ends ∙ e)),
)
  where
    front : List ℕ
    front = take (length s - 1) s

    last : ℕ
    last = get_or s (length s - 1) 0

    r : ℕ
    r = register all_ones front

    small : r < 256
    small = register_lt front all_ones (omega arith) (bytes_take s (length s - 1) b)

    ends : register all_ones s ≡ feed r last
    ends = ap (register all_ones) (unsnoc s h) ∙ register_append front (last ∷ []) all_ones

forbidden : ℕ → Bool
forbidden t = not (eqb (t / 8) 1) || eqb (kind_number (response_kind t)) kind_empty

required : ℕ → Bool
required t = not (eqb (kind_number (response_kind t)) kind_empty) || eqb (t / 8) 1

-- "K = 1: response kind 0", and no type with K = 0 has kind 0.
pub k_decides : (s : List ℕ) → (bit_k (get_or s 0 0) ≡ 1) ↔ (kind_number (kind_asked s) ≡ kind_empty)
unfolding forbidden required kind_asked response_kind type_table
k_decides s =
    let b : ℕ = get_or s 0 0 in
    let t : ℕ = message_type b in
    let k : bit_k b ≡ t / 8 = omega arith in
    let small : t < 16 = omega arith in (
      λ e. eqb→eq (kind_number (response_kind t)) kind_empty (rw (eq-eqb (t / 8) 1 (sym k ∙ e)) at (below forbidden 16 tt t small)),
      λ e. k ∙ eqb→eq (t / 8) 1 (rw (eq-eqb (kind_number (response_kind t)) kind_empty e) at (below required 16 tt t small)),
    )

limit_left : (kind : ResponseKind) (n : ℕ) → (n ≡ one_byte_form) ⊎ (n ≡ three_byte_form) → limit kind n + n + cond (is_checked kind) 2 1 ≡ most_bytes
limit_left kind n o = ⊎_elim (λ e. rw e (one kind)) (λ e. rw e (three kind)) o
  where
    one : (k : ResponseKind) → limit k 1 + 1 + cond (is_checked k) 2 1 ≡ 12
    one Empty = refl
    one Single = refl
    one Several = refl
    one Data = refl
    one Unassigned = refl

    three : (k : ResponseKind) → limit k 3 + 3 + cond (is_checked k) 2 1 ≡ 12
    three Empty = refl
    three Single = refl
    three Several = refl
    three Data = refl
    three Unassigned = refl

-- "Document 000's limits per response kind agree with this one rule": twelve bytes in all, check bytes counted, are exactly the
-- limits that it prints for data and response data, by kind and header form.
pub limits_agree :
    (h d a : List ℕ)
    → length h ≡ header_size h
    → (frame_size (frame_of h d a) ≤ most_bytes) ↔ (length d + length a ≤ limit (kind_asked h) (length h))
limits_agree h d a size =
    let total = frame_total h d a in
    let left = limit_left (kind_asked h) (length h) (rw (sym size) at (one_or_three h)) in
    (λ l. omega arith, λ l. omega arith)
