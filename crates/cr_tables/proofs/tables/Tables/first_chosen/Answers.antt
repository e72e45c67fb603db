use Rattle.std.proofs.Common.{◌∙◌, arith}
use Rattle.cr_tables.proofs.Kept.{at_now, calm_kept, chosen_kept, least_kept}
use Rattle.cr_tables.proofs.tables.Tables.first_chosen.Goals as goal

pub overflow_add-class_count : goal.overflow_add-class_count
overflow_add-class_count c = let few = c.class_count.ensures.few in omega (arith, few)

pub choose-requires-clause-calm : goal.choose-requires-clause-calm
choose-requires-clause-calm c =
    let t = at_now _ _ _ c.self.view_is c.self.invariant in
    calm_kept c.args.self.now c.class_count.result c.as_slice.result.now c.class_count.ensures.count (c.as_slice.ensures.value ∙ t.methods) t.lawful

pub returns-clause-chosen : goal.returns-clause-chosen
returns-clause-chosen c =
    let t = at_now _ _ _ c.self.view_is c.self.invariant in
    chosen_kept c.args.self.now c.class_count.result c.as_slice.result.now c.class_count.ensures.count (c.as_slice.ensures.value ∙ t.methods) t.lawful
    c.args.sought c.args.args.now c.args.places.now c.choose.result c.choose.ensures

pub returns-clause-least : goal.returns-clause-least
returns-clause-least c =
    let t = at_now _ _ _ c.self.view_is c.self.invariant in
    least_kept c.args.self.now c.class_count.result c.as_slice.result.now c.class_count.ensures.count (c.as_slice.ensures.value ∙ t.methods)
    c.args.sought c.args.args.now c.args.places.now c.choose.result c.choose.ensures
