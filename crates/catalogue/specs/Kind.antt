-- The kinds of records: document 01, "The supplement"; document 02, K5.
use Rattle.std.specs.Prelude.{ℕ, ◌+◌, ◌≡◌, Bool, false, ◌&&◌, List, [], ◌∷◌, eqb, leb, ltb, Option, unwrap_or, is_some, Result, MatchResult}
use Rattle.catalogue.specs.declared.kind.Kind as declared
use Rattle.catalogue.specs.declared.kind.Kind.TheVariants.{Slot, Prn, Layout, Selector}
use Rattle.catalogue.specs.declared.refusal.Refusal.{Refusal}
use Rattle.catalogue.specs.declared.refusal.Refusal.TheVariants.{UnknownKind}
use Rattle.catalogue.specs.Search.{first_where, every}

abbrev pub slot_kind : ℕ
slot_kind = 1

abbrev pub prn_kind : ℕ
prn_kind = 2

abbrev pub layout_kind : ℕ
layout_kind = 3

abbrev pub selector_kind : ℕ
selector_kind = 4

-- A kind: its number, the bytes of a record, and how many of them, from the first, are kind and key.
pub record Kind : Type 0 where
  pub number : ℕ
  pub size : ℕ
  pub key : ℕ

-- "One byte of kind, then a body whose length the kind fixes." Keys: form, width, number; PRN; of a layout "the
-- first five fields"; of kind 4 "the first two".
unfoldable pub kinds : List Kind
kinds =
    record { number = slot_kind; size = 1 + 20; key = 1 + 4 }
    ∷ record { number = prn_kind; size = 1 + 6; key = 1 + 2 }
    ∷ record { number = layout_kind; size = 1 + 38; key = 1 + 5 }
    ∷ record { number = selector_kind; size = 1 + 3; key = 1 + 2 }
    ∷ []

-- What holds of every kind: there is a body, there is a key, and the key lies within the body.
abbrev pub kind_holds : Kind → Bool
kind_holds k = ltb 1 k.size && ltb 1 k.key && leb k.key k.size

unfoldable pub kinds_hold : Bool
kinds_hold = every kind_holds kinds

unfoldable pub kind_found : ℕ → Option Kind
kind_found kind = first_where (λ k. eqb k.number kind) kinds

unfoldable pub known : ℕ → Bool
known kind = is_some (kind_found kind)

-- An unknown kind is a record of one byte, without a key.
unfoldable pub or_unknown : Option Kind → Kind
or_unknown o = unwrap_or o (record { number = 0; size = 1; key = 0 })

unfoldable pub record_size : ℕ → ℕ
record_size kind = (or_unknown (kind_found kind)).size

unfoldable pub key_size : ℕ → ℕ
key_size kind = (or_unknown (kind_found kind)).key

-- The number of each kind by its name, and what reading a kind's byte gives.
abbrev pub kind_number : declared.Kind → ℕ
kind_number Slot = slot_kind
kind_number Prn = prn_kind
kind_number Layout = layout_kind
kind_number Selector = selector_kind

abbrev pub Decodes : ℕ → Result declared.Kind Refusal → Type 0
Decodes byte r = MatchResult r (λ k. kind_number k ≡ byte) (λ e. (e ≡ UnknownKind) × (known byte ≡ false))
