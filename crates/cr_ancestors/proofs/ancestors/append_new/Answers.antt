use Rattle.std.proofs.Common.{sym, ap, ◌∙◌, take, Vec, Global}
use Rattle.cr_base.specs.declared.ids.ClassId.{ClassId}
use Rattle.cr_ancestors.proofs.Kept.{append_then, append_else, append_bound}
use Rattle.cr_ancestors.proofs.ancestors.append_new.Goals as goal
use Rattle.cr_ancestors.proofs.ancestors.append_new.Goals.{then-not-has+in_ok-push, else-not-has}

pub slice_bounds-has-end : goal.slice_bounds-has-end
slice_bounds-has-end c = append_bound c.args.list.now.items (take c.loop-class.class-index c.args.more.now) _ _ _ c.as_slice.ensures.value c.loop-class.invariant (c.len-before.ensures ∙ c.args.list.now.ok.0)

pub loop-class-preserved : goal.loop-class-preserved
loop-class-preserved c = elim c.if-not-has.branch [
  | then-not-has+in_ok-push w ↦ append_then c.args.list.now.items _ _ _ _ _ _ _ c.requires c.loop-class-test.true c.as_slice.ensures.value c.loop-class.invariant (c.len-before.ensures ∙ c.args.list.now.ok.0)
      (sym c.has.ensures ∙ w.if-not-has.true) (ap (λ (v : Vec ClassId Global). v.items) w.list-is ∙ w.in_ok-push.ensures.items)
  | else-not-has w ↦ append_else c.args.list.now.items _ _ _ _ _ _ _ c.requires c.loop-class-test.true c.as_slice.ensures.value c.loop-class.invariant (c.len-before.ensures ∙ c.args.list.now.ok.0)
      (sym c.has.ensures ∙ w.if-not-has.false) (ap (λ (v : Vec ClassId Global). v.items) w.list-is)
]
