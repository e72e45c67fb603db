use Rattle.std.proofs.Common.{◌+◌, arith}
use Rattle.cr_schedule.proofs.Spending.{spent_more, spent-take-le}
use Rattle.cr_schedule.proofs.history.History.spent.Goals as goal

pub overflow_add-total : goal.overflow_add-total
overflow_add-total c =
    omega (
      arith,
      spent_more c.args.self.now.entries c.loop-at.at c.entry.result c.entry.ensures.entry,
      spent-take-le c.args.self.now.entries (c.loop-at.at + 1),
    )

pub loop-at-preserved : goal.loop-at-preserved
loop-at-preserved c = omega (arith, spent_more c.args.self.now.entries c.loop-at.at c.entry.result c.entry.ensures.entry)
