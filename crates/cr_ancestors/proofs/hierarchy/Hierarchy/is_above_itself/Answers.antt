use Rattle.std.proofs.Common.{◌≡◌, Bool, true, List, Contains, sym, ap, ◌∙◌, subst, IsTrue, rules}
use Rattle.cr_base.specs.declared.ids.ClassId.{ClassId}
use Rattle.cr_ancestors.specs.Line.{has}
use Rattle.cr_ancestors.proofs.Members.{has_from, contains_from, is_true, from_true}
use Rattle.cr_ancestors.proofs.hierarchy.Hierarchy.is_above_itself.Goals as goal

pub returns : goal.returns
returns c =
    let exact = c.in_ok-above.ensures c.args.class in
    let test : c.has.result ≡ has c.in_ok-above.above.items c.args.class = c.has.ensures ∙ ap (λ (l : List ClassId). has l c.args.class) c.as_slice.ensures.value in (
      λ yes. exact.0 (contains_from c.in_ok-above.above.items c.args.class (sym test ∙ from_true c.has.result yes)),
      λ over. is_true c.has.result (test ∙ has_from c.in_ok-above.above.items c.args.class (exact.1 over)),
    )
