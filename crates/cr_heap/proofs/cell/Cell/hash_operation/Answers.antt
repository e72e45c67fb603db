use Rattle.cr_heap.proofs.Keeping.{hash_stays}
use Rattle.cr_heap.proofs.cell.Cell.hash_operation.Goals as goal

pub returns-in-Hash-clause-kept : goal.returns-in-Hash-clause-kept
returns-in-Hash-clause-kept c =
    hash_stays c.args.operation c.in-Hash.hash c.apply.new.self c.args.arguments.now c.apply.result c.args.self.now c.in-Hash.is c.apply.ensures.ok
