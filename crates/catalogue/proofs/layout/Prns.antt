-- Laws of reading a layout's PRNs: none read, one more, all; and those that its count uses.
use mathlib.Core.Path.{◌≡◌, refl, sym, ap, ◌∙◌}
use mathlib.Core.List.{List, ◌++◌}
use Prim.Native.Nat.{ℕ, min, ◌+◌, ◌-◌, ◌*◌, ◌≤◌, ◌<◌}
use native.Mathlib.Omega.{arith}
use borrow.Author.Tests.{eqb-true, eqb-false, ltb-true, ltb-false, leb-true, leb-false}
use lib.Dec.{eqb, leb, ltb}
use lib.ListN.{length, take, get_or, set, replicate, length-set, length-append, length-replicate, get_or-replicate, get_or-append, get_or-eq_default}
use lib.Seq.{get_or-set_same, get_or-set_other, get_or-take, get_or-append-add, length-take-le, take_all, take-append-le, ext_get_or}
use Rattle.frame.proofs.bytes.Laws.{cases}
use Rattle.catalogue.specs.Record.{two, LayoutRow, most_prns, prns_at, layout_count, layout_places, layout_row}
use Rattle.catalogue.specs.Lookup.{prns_used}
use Rattle.catalogue.specs.Inner.{PrnsRead}
use Rattle.catalogue.proofs.record.Laws.{length_numbers, numbers_at}

zero_at : (n j : ℕ) → get_or {A = ℕ} (replicate n 0) j 0 ≡ 0
zero_at n j =
    cases (ltb j n) (λ t. get_or-replicate n j 0 0 (ltb-true j n t))
    (λ f. get_or-eq_default (replicate n 0) 0 {n = j} (omega (arith, length-replicate {A = ℕ} n 0, ltb-false j n f)))

pub none_read : (r : List ℕ) → PrnsRead r (replicate most_prns 0) 0
none_read r = record { each = λ j h. absurd (omega arith); rest = λ j h. zero_at most_prns j; room = refl; most = omega arith }

module _ (r : List ℕ) {prns : List ℕ} {n : ℕ} (read : PrnsRead r prns n) where
  pub one_read : n < most_prns → {x : ℕ} → x ≡ two r (prns_at + n * 2) → PrnsRead r (set prns n x) (n + 1)
  one_read h {x} e =
      record {
        each =
            λ j l.
            cases (eqb j n)
            (λ t.
            let here : j ≡ n = eqb-true j n t in
            ap (λ (k : ℕ). get_or (set prns n x) k 0) here
            ∙ get_or-set_same prns n x 0 (omega (arith, read.room))
            ∙ e
            ∙ ap (λ (k : ℕ). two r (prns_at + k * 2)) (sym here))
            (λ f. get_or-set_other prns n j x 0 (eqb-false j n f) ∙ read.each j (omega (arith, eqb-false j n f)));
        rest =
            λ j l.
            let apart : j ≡ n → ⊥ = λ e. omega arith in
            get_or-set_other prns n j x 0 apart ∙ read.rest j (omega arith);
        room = simp length-set read.room;
        most = omega arith;
      }

  -- The first n are the record's, and zeros follow.
  pub all_read : prns ≡ prns_used n r
  unfolding prns_used
  all_read =
      let first : List ℕ = take n (layout_places r) in
      let zeros : List ℕ = replicate (most_prns - n) 0 in
      let places : length (layout_places r) ≡ most_prns = length_numbers most_prns prns_at r in
      let size : length first ≡ n = length-take-le n (layout_places r) (omega (arith, places, read.most)) in
      ext_get_or 0 prns (first ++ zeros)
      (omega (arith, read.room, read.most, length-append first zeros, size, length-replicate {A = ℕ} (most_prns - n) 0))
      (λ j l.
      cases (ltb j n)
      (λ t.
      let h : j < n = ltb-true j n t in
      read.each j h
      ∙ sym (get_or-append first zeros 0 j (omega (arith, size, h))
      ∙ get_or-take n (layout_places r) j 0 h
      ∙ numbers_at most_prns prns_at r j (omega (arith, h, read.most))))
      (λ f.
      let h : n ≤ j = ltb-false j n f in
      let place : j ≡ length first + (j - n) = omega (arith, size, h) in
      read.rest j h
      ∙ sym (ap (λ (k : ℕ). get_or (first ++ zeros) k 0) place ∙ get_or-append-add first zeros (j - n) 0 ∙ zero_at (most_prns - n) (j - n))))

-- A layout uses as many as its count says, at most sixteen.
pub take_most : (n : ℕ) (l : List ℕ) → length l ≡ most_prns → take (min n most_prns) l ≡ take n l
take_most n l e =
    cases (leb n most_prns)
    (λ t. let h : min n most_prns ≡ n = omega (arith, leb-true n most_prns t) in ap (λ (m : ℕ). take m l) h)
    (λ f.
    let h : min n most_prns ≡ most_prns = omega (arith, leb-false n most_prns f) in
    ap (λ (m : ℕ). take m l) h ∙ take_all most_prns l (omega arith) ∙ sym (take_all n l (omega (arith, leb-false n most_prns f))))

-- So many PRNs that are used are the first places, and there are sixteen places.
pub used_taken : (n : ℕ) (r : List ℕ) → n ≤ most_prns → take n (prns_used n r) ≡ take n (layout_places r)
unfolding prns_used
used_taken n r h =
    let first : List ℕ = take n (layout_places r) in
    let size : length first ≡ n = length-take-le n (layout_places r) (omega (arith, length_numbers most_prns prns_at r)) in
    take-append-le n first (replicate (most_prns - n) 0) (omega (arith, size)) ∙ take_all n first (omega (arith, size))

-- So many PRNs as the count says, at most sixteen, are those of the layout.
pub layout_read :
    (r : List ℕ) {n : ℕ} {prns : List ℕ}
    → n ≡ min (layout_count r) most_prns
    → prns ≡ prns_used n r
    → ◌≡◌ {A = LayoutRow} (record { prns = take n prns }) (layout_row r)
unfolding layout_row
layout_read r {n} {prns} count read =
    let prefix : take n (prns_used n r) ≡ take (layout_count r) (layout_places r) =
    used_taken n r (omega arith)
    ∙ ap (λ (m : ℕ). take m (layout_places r)) count
    ∙ take_most (layout_count r) (layout_places r) (length_numbers most_prns prns_at r) in
    λ i. record { prns = (ap (take n) read ∙ prefix) i }
