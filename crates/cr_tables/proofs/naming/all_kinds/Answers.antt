use Rattle.std.proofs.Common.{Bool, List, [], ◌∷◌, ◌++◌, map, sym, ap, ◌∙◌}
use Rattle.cr_tables.specs.Numbers.{is_class, first_classes}
use Rattle.cr_tables.proofs.Tabled.{classes_more}
use Rattle.cr_tables.proofs.naming.all_kinds.Goals as goal

pub loop-number-preserved : goal.loop-number-preserved
loop-number-preserved c =
    let t = c.args.lookup.now.core.now in
    let n = c.loop-number.number in
    c.in_ok-push.ensures.items
    ∙ ap (λ (l : List Bool). l ++ c.is_class.result ∷ []) c.loop-number.invariant
    ∙ ap (λ (b : Bool). map (is_class t) (first_classes n) ++ b ∷ []) c.is_class.ensures
    ∙ sym (classes_more (is_class t) n)
