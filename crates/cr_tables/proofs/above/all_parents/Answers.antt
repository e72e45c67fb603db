use Rattle.std.proofs.Common.{List, [], ◌∷◌, ◌++◌, map, sym, ap, ◌∙◌}
use Rattle.cr_ancestors.specs.declared.parents.Parents.{Parents}
use Rattle.cr_tables.specs.Numbers.{first_classes}
use Rattle.cr_tables.specs.Making.{parents_by}
use Rattle.cr_tables.proofs.Tabled.{classes_more}
use Rattle.cr_tables.proofs.above.all_parents.Goals as goal

pub loop-number-preserved : goal.loop-number-preserved
loop-number-preserved c =
    let n = c.loop-number.number in
    c.in_ok-push.ensures.items
    ∙ ap (λ (l : List Parents). l ++ c.in_ok-each.each ∷ []) c.loop-number.invariant
    ∙ ap (λ (p : Parents). map (parents_by c.args.kinds.now c.args.inclusions.now c.args.superclasses.now) (first_classes n) ++ p ∷ []) c.in_ok-each.ensures
    ∙ sym (classes_more (parents_by c.args.kinds.now c.args.inclusions.now c.args.superclasses.now) n)
