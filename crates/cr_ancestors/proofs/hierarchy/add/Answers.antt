use Rattle.std.proofs.Common.{sym, ap, ◌∙◌, Vec, Global}
use Rattle.cr_base.specs.declared.ids.ClassId.{ClassId}
use Rattle.cr_ancestors.proofs.Kept.{add_then, add_else}
use Rattle.cr_ancestors.proofs.hierarchy.add.Goals as goal
use Rattle.cr_ancestors.proofs.hierarchy.add.Goals.{then-not-has+in_ok-push, else-not-has}

pub loop-class-preserved : goal.loop-class-preserved
loop-class-preserved c = elim c.if-not-has.branch [
  | then-not-has+in_ok-push w ↦ add_then c.args.found.now.items _ _ _ _ _ _ c.loop-class-test.true c.as_slice.ensures.value c.loop-class.invariant
      (sym c.has.ensures ∙ w.if-not-has.true) (ap (λ (v : Vec ClassId Global). v.items) w.found-is ∙ w.in_ok-push.ensures.items)
  | else-not-has w ↦ add_else c.args.found.now.items _ _ _ _ _ _ c.loop-class-test.true c.as_slice.ensures.value c.loop-class.invariant
      (sym c.has.ensures ∙ w.if-not-has.false) (ap (λ (v : Vec ClassId Global). v.items) w.found-is)
]
