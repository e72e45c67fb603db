use Rattle.cr_heap.proofs.Keeping.{array_stays}
use Rattle.cr_heap.proofs.cell.Cell.array_operation.Goals as goal

pub returns-in-Array-clause-kept : goal.returns-in-Array-clause-kept
returns-in-Array-clause-kept c =
    array_stays c.args.operation c.in-Array.array c.apply.new.self c.args.arguments.now c.apply.result c.args.self.now c.in-Array.is c.apply.ensures.ok
