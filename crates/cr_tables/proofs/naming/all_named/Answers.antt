use Rattle.std.proofs.Common.{ℕ, List, [], ◌∷◌, ◌++◌, Option, map, sym, ap, ◌∙◌}
use Rattle.std.specs.List.{range_with_len}
use Rattle.cr_base.specs.declared.ids.ClassId.{ClassId}
use Rattle.cr_tables.specs.Numbers.{class_named}
use Rattle.cr_tables.proofs.Tabled.{mapped_more}
use Rattle.cr_tables.proofs.naming.all_named.Goals as goal

pub loop-number-preserved : goal.loop-number-preserved
loop-number-preserved c =
    let t = c.args.lookup.now.core.now in
    let n = c.loop-number.number in
    c.in_ok-push.ensures.items
    ∙ ap (λ (l : List (Option ClassId)). l ++ c.class_named.result ∷ []) c.loop-number.invariant
    ∙ ap (λ (o : Option ClassId). map (λ (k : ℕ). class_named t (record { 0 = k })) (range_with_len 0 n) ++ o ∷ []) c.class_named.ensures
    ∙ sym (mapped_more (λ (k : ℕ). class_named t (record { 0 = k })) n)
