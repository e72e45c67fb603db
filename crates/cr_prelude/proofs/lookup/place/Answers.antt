use Rattle.std.proofs.Common.{below_more}
use Rattle.cr_prelude.specs.Builtins.{line_at}
use Rattle.cr_prelude.proofs.Search.{not_here, nowhere}
use Rattle.cr_prelude.proofs.lookup.place.Goals as goal

pub loop-at-preserved : goal.loop-at-preserved
loop-at-preserved c = below_more _ _ c.loop-at.invariant
    (not_here line_at c.args.table.now c.loop-at.at _ _ _ c.loop-at-test.true c.is_line.ensures.1 c.if-is_line.false)

pub returns-clause-none : goal.returns-clause-none
returns-clause-none c = nowhere line_at c.args.table.now c.loop-at.at _ c.loop-at-test.false c.loop-at.invariant
