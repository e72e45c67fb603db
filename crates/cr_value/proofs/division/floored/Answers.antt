use Rattle.std.proofs.Common.{◌≢◌, ap, pos, w64, of_z}
use Rattle.std.specs.Prelude.{int_rem}
use Rattle.std.proofs.lemmas.Int.{to_z-of_z}
use Rattle.cr_value.proofs.Dividing.{quotient_fits, rest_fits, lowered, kept_apart, kept_even, from_bits}
use Rattle.cr_value.proofs.division.floored.Goals as goal
use Rattle.cr_value.proofs.division.floored.Goals.{else-rest-ne0-via-then-rest-ne0+else-rest-b, else-rest-ne0-via-else-rest-ne0}

pub returns-then-rest-b : goal.returns-then-rest-b
returns-then-rest-b c =
    let a = c.ranges.a in
    let b = c.ranges.b in
    let quotient = quotient_fits c.args.a c.args.b a c.requires.not_zero c.requires.not_minus_one in
    let rest = rest_fits c.args.a c.args.b b c.requires.not_zero in
    let some : int_rem c.args.a c.args.b ≢ pos 0 = λ e. (simp to_z-of_z at c.if-rest-ne0.true) (ap (of_z w64) e) in
    let low = lowered c.args.a c.args.b a b c.requires.not_zero some (simp to_z-of_z at c.if-rest-b.true) in
    let low_quotient = low.quotient_fits in
    let low_rest = low.rest_fits in
    simp to_z-of_z low.divides

pub returns-else-rest-ne0 : goal.returns-else-rest-ne0
returns-else-rest-ne0 c =
    let a = c.ranges.a in
    let b = c.ranges.b in
    let quotient = quotient_fits c.args.a c.args.b a c.requires.not_zero c.requires.not_minus_one in
    let rest = rest_fits c.args.a c.args.b b c.requires.not_zero in
    elim c.else-rest-ne0.branch [
      | else-rest-ne0-via-then-rest-ne0+else-rest-b w ↦ simp to_z-of_z (kept_apart c.args.a c.args.b c.requires.not_zero (simp to_z-of_z at w.if-rest-b.false))
      | else-rest-ne0-via-else-rest-ne0 w ↦ simp to_z-of_z (kept_even c.args.a c.args.b c.requires.not_zero (from_bits _ rest (simp to_z-of_z at w.if-rest-ne0.false)))
    ]
