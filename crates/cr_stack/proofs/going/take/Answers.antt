use Rattle.cr_core.specs.Shape as shape
use Rattle.cr_stack.proofs.Resuming.{taken, underway_more}
use Rattle.cr_stack.proofs.going.take.Goals as goal

pub resume-requires-clause-underway : goal.resume-requires-clause-underway
resume-requires-clause-underway c =
    underway_more c.args.tree.now.rows c.args.node shape.Term c.args.values c.in-Ok.values c.args.value c.in-Ok.ensures.ok c.requires.lacks

pub returns-in-Ok : goal.returns-in-Ok
returns-in-Ok c =
    taken c.args.tree.now c.args.around.now.items c.resume.new.around.items c.args.node c.args.values c.in-Ok.values c.args.value c.resume.result c.in-Ok.ensures.ok c.resume.ensures
