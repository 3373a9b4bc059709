-- A number in hexadecimal, in lower case, with zeros before it up to a width.
use Rattle.std.specs.Prelude.{ℕ, ◌-◌, false, List, ◌++◌, length, replicate}
use Rattle.std.specs.Fmt.{digits}

unfoldable pub hex_digits : ℕ → List ℕ
hex_digits n = digits 16 false n

unfoldable pub wide : ℕ → List ℕ → List ℕ
wide width ds = replicate (width - length ds) 48 ++ ds
