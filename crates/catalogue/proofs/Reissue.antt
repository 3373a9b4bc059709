-- A file of the former form that has a layout is refused, so that its maker has to issue it anew.
use mathlib.Core.Path.{◌≡◌, sym, ap, ◌∙◌, subst}
use mathlib.Core.List.Memᴰ
use mathlib.Core.List.{List, [], ◌∷◌, ◌++◌, Memᴰ}
use Prim.Native.Nat.{ℕ, ◌+◌, ◌*◌, ◌<◌}
use native.Mathlib.Omega.{arith}
use lib.ListN.{length, take, get_or, length-take, length-append, get_or-append}
use lib.Seq.{get_or-take, get_or_at}
use Rattle.catalogue.specs.Kind.{layout_kind, record_size}
use Rattle.catalogue.specs.Record.{record_kind, selector_length, selector_bytes, layout_count, prns_at}
use Rattle.catalogue.specs.Supplement.{records_in, records_of, Accepted, Sound, Whole}
use Rattle.catalogue.specs.Former.{former_size, FormerLayout, Follows}
use Rattle.catalogue.proofs.kind.Laws.{layout_size}
use Rattle.catalogue.proofs.record.Laws.{LayoutHas, layout_has, zero_from}
use Rattle.catalogue.proofs.supplement.Laws.{records_append}
use Rattle.catalogue.proofs.Accepted.{good}

-- The record that is seen where a former layout stands has one byte of what follows as its last.
abbrev seen : List ℕ → List ℕ → List ℕ
seen l rest = take (record_size layout_kind) (l ++ rest)

read_on : (l rest : List ℕ) → FormerLayout l → Memᴰ (seen l rest) (records_of (l ++ rest))
unfolding records_of records_in
read_on [] rest f = absurd (omega (arith, f.whole))
read_on (k ∷ l) rest f =
    Memᴰ.head (ap (λ (n : ℕ). take n (k ∷ (l ++ rest))) (sym (ap record_size f.kind)))

-- Its second selector byte is the former count, and is unused: so there are no PRNs, all is zero, and the last byte is a kind.
module _ (l rest : List ℕ) (f : FormerLayout l) (sound : Sound (seen l rest)) where
  byte : (i : ℕ) → i < former_size → get_or (seen l rest) i 0 ≡ get_or l i 0
  byte i h = get_or-take (record_size layout_kind) (l ++ rest) i 0 (omega (arith, layout_size)) ∙ get_or-append l rest 0 i (omega (arith, f.whole))

  kind : record_kind (seen l rest) ≡ layout_kind
  kind = byte 0 (omega arith) ∙ f.kind

  longer : former_size < length (l ++ rest)
  longer = omega (arith, sound.whole, ap record_size kind, layout_size, length-take (record_size layout_kind) (l ++ rest))

  fits : LayoutHas (seen l rest)
  fits = layout_has (seen l rest) kind sound.range

  none_counted : get_or l 5 0 ≡ 0
  none_counted =
      sym (byte 5 (omega arith))
      ∙ zero_from (selector_bytes (seen l rest)) (selector_length (seen l rest)) 1 fits.unused (omega (arith, byte 3 (omega arith), f.present))

  last_of_zeros : get_or (l ++ rest) former_size 0 ≡ 0
  last_of_zeros =
      let count : layout_count (seen l rest) ≡ 0 = byte 6 (omega arith) ∙ f.unused 6 (omega (arith, none_counted)) in
      sym (get_or-take (record_size layout_kind) (l ++ rest) former_size 0 (omega (arith, layout_size)))
      ∙ zero_from (seen l rest) (prns_at + layout_count (seen l rest) * 2) former_size fits.rest (omega (arith, count))

not_sound : (l rest : List ℕ) → FormerLayout l → Follows rest → Sound (seen l rest) → ⊥
not_sound l [] f follows sound = omega (arith, longer l [] f sound, length-append l [], f.whole)
not_sound l (k ∷ rest) f follows sound =
    omega (arith, follows, sym (get_or_at l k rest 0 former_size f.whole) ∙ last_of_zeros l (k ∷ rest) f sound)

-- "A binary file of the old form is refused like any other bad file": one with a layout, whole records before it,
-- and nothing or another record behind it.
pub former_refused :
    (s l rest : List ℕ) → Whole s → FormerLayout l → Follows rest → Accepted (s ++ (l ++ rest)) → ⊥
former_refused s l rest w f follows a =
    not_sound l rest f follows
    ((good (s ++ (l ++ rest)) a).each _
    (subst (Memᴰ (seen l rest)) (sym (records_append s (l ++ rest) w)) (Memᴰ.append_right (records_of s) (read_on l rest f))))
