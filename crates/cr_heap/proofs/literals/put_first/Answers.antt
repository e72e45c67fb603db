use Rattle.std.proofs.Common.{◌∙◌, ap}
use Rattle.cr_builtins.specs.Cells.{change}
use Rattle.cr_heap.proofs.Keeping.{hash_step, hash_stuck}
use Rattle.cr_heap.proofs.literals.put_first.Goals as goal

pub returns-in-Gives-clause-put : goal.returns-in-Gives-clause-put
returns-in-Gives-clause-put c = λ _.
    hash_step c.args.hash.now c.apply.new.self c.args.values.now c.in-Gives.field-0 c.requires
    (c.in_ok-apply.ensures.ok ∙ ap (change c.apply.new.self) c.in-Gives.is)

pub returns-in-Stuck-clause-stuck : goal.returns-in-Stuck-clause-stuck
returns-in-Stuck-clause-stuck c = λ _.
    hash_stuck c.args.hash.now c.apply.new.self c.args.values.now c.requires
    (c.in_ok-apply.ensures.ok ∙ ap (change c.apply.new.self) c.in-Stuck.is)
