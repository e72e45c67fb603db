use Rattle.std.proofs.Common.{◌∙◌, subst, w32, w64, FitsSigned}
use Rattle.std.proofs.lemmas.Int.{to_z-of_z, wrapping_sub_is}
use Rattle.cr_value.proofs.Wrapping.{small_result, big_result}
use Rattle.cr_value.specs.Arithmetic.{Fits}
use Rattle.cr_value.proofs.arithmetic.wrap_sub.Goals as goal

pub returns-in-Small : goal.returns-in-Small
returns-in-Small c =
    let a : FitsSigned w64 c.args.a = c.ranges.a in
    let b : FitsSigned w64 c.args.b = c.ranges.b in
    let a_small : FitsSigned w32 c.args.a = subst (λ w. Fits w c.args.a) c.in-Small.is c.requires.a_fits in
    let b_small : FitsSigned w32 c.args.b = subst (λ w. Fits w c.args.b) c.in-Small.is c.requires.b_fits in
    small_result _ _ _ c.in-Small.is (simp to_z-of_z at c.from.ensures ∙ wrapping_sub_is w32 _ _ a_small b_small)

pub returns-in-Big : goal.returns-in-Big
returns-in-Big c = big_result _ _ _ c.in-Big.is (wrapping_sub_is w64 _ _ c.ranges.a c.ranges.b)
