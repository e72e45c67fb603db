use Rattle.std.proofs.Common.{◌∙◌, ap, w64}
use Rattle.std.specs.Fmt.{signed_decimal}
use Rattle.std.proofs.lemmas.Int.{to_z-of_z}
use Rattle.cr_value.proofs.Printed.{short_digits}
use Rattle.cr_value.proofs.showing.decimal.Goals as goal

pub within-requires : goal.within-requires
within-requires c =
    short_digits c.args.number c.as_str.result.now c.ranges.number
    (c.as_str.ensures.value ∙ c.in_ok-digits.ensures.ok ∙ ap signed_decimal (to_z-of_z w64 c.args.number c.ranges.number))
