use Rattle.std.proofs.Common.{refl, arith}
use Rattle.cr_core.specs.declared.form.Form.TheVariants.{If}
use Rattle.cr_making.specs.Control.{arms}
use Rattle.cr_making.specs.Part.{Part}
use Rattle.cr_making.proofs.Done.{nests_none}
use Rattle.cr_making.proofs.Loops.{others_more, others_done, begins_at}
use Rattle.cr_constructs.proofs.constructs.Constructs.arms.Goals as goal

pub loop-clause-init : goal.loop-clause-init
loop-clause-init g c = nests_none _

pub loop-clause-preserved : goal.loop-clause-preserved
loop-clause-preserved g c = others_more If (λ (p : Part). p.arm c.args.get) c.as_slice-clauses.result.now c.loop-clause.clause-index _ _ _ _ _ (omega arith) c.clause-item.is c.loop-clause.invariant (begins_at (c.arm_place.ensures c.args.get) c.in_ok-open.ensures) c.in_ok-one.ensures

pub returns : goal.returns
unfolding arms
returns g c = others_done If (λ (p : Part). p.arm c.args.get) c.loop-clause.clause-index _ c.as_slice-clauses.result.now _ _ _ _ _ _ c.as_slice-clauses.ensures (omega arith) refl c.loop-clause.invariant c.in_ok-no_arm.ensures c.in_ok-close_all.ensures
