use Rattle.std.proofs.Common.{◌≡◌, ◌-◌, ◌^◌, [], false, Some, OnOk, IfSome, ap, ◌∙◌, subst}
use Rattle.std.specs.Option.{option_map}
use Rattle.std.specs.Fmt.{styled_digits_output, padded_integral, format_spec}
use Rattle.std.specs.Io.KnownBytes.{Appends}
use Rattle.vector_io.specs.Digits.{hex_digits, wide}
use Rattle.vector_io.proofs.Wide.{zeros_before}
use Rattle.vector_io.proofs.print_hex.Goals as goal

pub returns : goal.returns
unfolding hex_digits
returns g c =
    let text : styled_digits_output c.in_radix.result c.laid_out.result ≡ Some (wide c.args.width (hex_digits c.args.n)) =
    ap (styled_digits_output c.in_radix.result) c.laid_out.ensures
    ∙ ap (option_map (padded_integral (format_spec 32 0 4 c.args.width (2 ^ 64 - 1)) false [])) c.in_radix.ensures
    ∙ ap Some (zeros_before _ _) in
    subst (λ o. OnOk c.write.result (IfSome o (Appends (g.W.Write.contents c.args.out.now) (g.W.Write.contents c.write.new.self)))) text c.write.ensures.bytes
