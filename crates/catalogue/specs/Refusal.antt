-- The refusals of a supplement: document 01, "Refusal numbers".
use Rattle.std.specs.Prelude.{ℕ}
use Rattle.catalogue.specs.declared.refusal.Refusal.{Refusal}
use Rattle.catalogue.specs.declared.refusal.Refusal.TheVariants.{TooLong, UnknownKind, CutByEnd, OutsideRange, KeyRepeated, KeyInSae}

-- "supplement over 16,384 bytes"
abbrev pub supplement_too_long : ℕ
supplement_too_long = 10

-- "unknown kind byte"
abbrev pub unknown_kind : ℕ
unknown_kind = 11

-- "record cut by the end"
abbrev pub cut_by_end : ℕ
cut_by_end = 12

-- "a field outside its range"
abbrev pub outside_range : ℕ
outside_range = 13

-- "key already in an earlier record of that kind"
abbrev pub key_repeated : ℕ
key_repeated = 14

-- "key already in the SAE tables"
abbrev pub key_in_sae : ℕ
key_in_sae = 15

-- The number of each refusal by its name.
abbrev pub number_of : Refusal → ℕ
number_of TooLong = supplement_too_long
number_of UnknownKind = unknown_kind
number_of CutByEnd = cut_by_end
number_of OutsideRange = outside_range
number_of KeyRepeated = key_repeated
number_of KeyInSae = key_in_sae
