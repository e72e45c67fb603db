use Rattle.std.proofs.Common.{pos, neg_ℤ, w64, FitsSigned, rules}
use Rattle.std.proofs.lemmas.Int.{to_z-of_z}
use Rattle.cr_value.proofs.Dividing.{minus_one_from_bits, quotient_by_minus_one, fits_between}
use Rattle.cr_value.specs.Division.{IsFloorDivision}
use Rattle.cr_value.proofs.division.floor_mod.Goals as goal

pub returns-then-b-eqminus1-clause-ok : goal.returns-then-b-eqminus1-clause-ok
returns-then-b-eqminus1-clause-ok c =
    let whole = quotient_by_minus_one c.args.a c.args.b (minus_one_from_bits c.args.b c.ranges.b c.if-b-eqminus1.true) in
    ((neg_ℤ c.args.a, whole), fits_between c.args.w c.args.a c.args.b _ (pos 0) c.requires.b_fits whole)

pub returns-clause-ok : goal.returns-clause-ok
returns-clause-ok c =
    let a = c.ranges.a in
    let b = c.ranges.b in
    let remainder : FitsSigned w64 c.floored-remainder.result.1 = search rules in
    let divides : IsFloorDivision c.args.a c.args.b c.floored-remainder.result.0 c.floored-remainder.result.1 = simp to_z-of_z at c.floored-remainder.ensures in
    simp to_z-of_z ((c.floored-remainder.result.0, divides), fits_between c.args.w c.args.a c.args.b _ _ c.requires.b_fits divides)
