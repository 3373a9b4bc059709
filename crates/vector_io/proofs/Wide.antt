-- What std writes of digits under a width and a zero flag is the digits behind zeros.
use Rattle.std.proofs.Common.{◌≡◌, ℕ, ◌-◌, ◌^◌, List, [], ◌++◌, false, ap, append-nil, arith, length, replicate, ◌∙◌}
use Rattle.std.specs.Fmt.{padded_integral, format_spec, char_count}
use Rattle.vector_io.specs.Digits.{wide}

pub zeros_before : (width : ℕ) (ds : List ℕ) → padded_integral (format_spec 32 0 4 width (2 ^ 64 - 1)) false [] ds ≡ wide width ds
unfolding padded_integral char_count wide
zeros_before width ds =
    let no_sign : ((width - length ds) - 0) - 0 ≡ width - length ds = omega arith in
    ap (λ k. replicate k 48 ++ (ds ++ [])) no_sign ∙ ap (λ l. replicate (width - length ds) 48 ++ l) (append-nil ds)
