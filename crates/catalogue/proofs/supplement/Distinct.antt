-- Laws of records whose keys are distinct.
use Rattle.std.proofs.Common.{Option, None, Some}
use mathlib.Core.Path.{◌≡◌, refl, sym, ap, ◌∙◌}
use mathlib.Core.Logic.{⊎_elim}
use mathlib.Core.Bool.{true, true≢false}
use mathlib.Core.List.Memᴰ
use mathlib.Core.List.{List, [], ◌∷◌, Memᴰ}
use Prim.Native.Nat.{ℕ}
use Rattle.catalogue.specs.Record.{key_of, has_key, record_with, FullKey}
use Rattle.catalogue.specs.Supplement.{Distinct}
use Rattle.catalogue.proofs.search.Laws.{none_is}
use Rattle.catalogue.proofs.record.Keys.{key_is_lem, found_record}

-- Where keys are distinct, a key has one record,
pub distinct_unique : (rs : List (List ℕ)) → Distinct rs → (r q : List ℕ) → Memᴰ r rs → Memᴰ q rs → key_of r ≡ key_of q → r ≡ q
distinct_unique [] d r q m n e = absurd (Memᴰ.not-nil m)
distinct_unique (x ∷ rs) d r q m n e =
    ⊎_elim
    (λ (h : r ≡ x). ⊎_elim (λ (g : q ≡ x). h ∙ sym g) (λ (t : Memᴰ q rs). absurd (d.0 q t (sym e ∙ ap key_of h))) (Memᴰ.cases_cons n))
    (λ (t : Memᴰ r rs).
    ⊎_elim (λ (g : q ≡ x). absurd (d.0 r t (e ∙ ap key_of g))) (λ (u : Memᴰ q rs). distinct_unique rs d.1 r q t u e) (Memᴰ.cases_cons n))
    (Memᴰ.cases_cons m)

-- and so a record of the list is the one that its key finds.
pub found_again : (rs : List (List ℕ)) → Distinct rs → (key r : List ℕ) → FullKey key → Memᴰ r rs → has_key key r ≡ true → record_with key rs ≡ Some r
unfolding record_with
found_again rs d key r full m h = go (record_with key rs) refl
  where
    go : (o : Option (List ℕ)) → record_with key rs ≡ o → record_with key rs ≡ Some r
    go None f = absurd (true≢false (sym h ∙ none_is (has_key key) rs f r m))
    go (Some q) f =
        let is = found_record key rs q f in
        f ∙ ap Some (distinct_unique rs d q r is.1 m (key_is_lem key q full is.0 ∙ sym (key_is_lem key r full h)))
