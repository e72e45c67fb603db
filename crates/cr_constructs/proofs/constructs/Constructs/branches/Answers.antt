use Rattle.std.proofs.Common.{refl, arith}
use Rattle.cr_core.specs.declared.form.Form.TheVariants.{If}
use Rattle.cr_making.specs.Control.{branches}
use Rattle.cr_making.specs.Part.{Part}
use Rattle.cr_making.proofs.Done.{nests_none}
use Rattle.cr_making.proofs.Loops.{others_more, others_done, begins_at}
use Rattle.cr_constructs.proofs.constructs.Constructs.branches.Goals as goal

pub loop-other-init : goal.loop-other-init
loop-other-init g c = nests_none _

pub loop-other-preserved : goal.loop-other-preserved
loop-other-preserved g c = others_more If (λ (p : Part). p.branch) c.as_slice-others.result.now c.loop-other.other-index _ _ _ _ _ (omega arith) c.other-item.is c.loop-other.invariant (begins_at c.branch_place.ensures c.in_ok-open.ensures) c.in_ok-one.ensures

pub returns : goal.returns
unfolding branches
returns g c = others_done If (λ (p : Part). p.branch) c.loop-other.other-index _ c.as_slice-others.result.now _ _ _ _ _ _ c.as_slice-others.ensures (omega arith) refl c.loop-other.invariant c.in_ok-otherwise.ensures c.in_ok-close_all.ensures
