use Rattle.std.proofs.Common.{sym, arith}
use Rattle.cr_names.proofs.Owning.{built_low, own_low}
use Rattle.cr_names.proofs.lookup.Lookup.class_of_name.Goals as goal

pub overflow_cast-result : goal.overflow_cast-result
overflow_cast-result c = let low = built_low _ c.in-Some.place (sym c.in-Some.ensures) in omega (arith, low)

pub overflow_add-result : goal.overflow_add-result
overflow_add-result c =
    let low = own_low c.args.self.now.core.now c.args.name c.in-Some-own_place.place (sym c.in-Some-own_place.ensures) in
    omega (arith, low, c.requires.few, c.built_in_count.ensures.count)

pub overflow_cast-result-in-Some-own_place : goal.overflow_cast-result-in-Some-own_place
overflow_cast-result-in-Some-own_place c =
    let low = own_low c.args.self.now.core.now c.args.name c.in-Some-own_place.place (sym c.in-Some-own_place.ensures) in
    omega (arith, low, c.requires.few, c.built_in_count.ensures.count)
