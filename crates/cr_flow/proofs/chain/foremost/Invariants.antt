use Rattle.std.proofs.Common.{length, ◌-◌}
use Rattle.cr_flow.specs.Chain.{LeadsTo}
use Rattle.cr_flow.proofs.chain.foremost.Given as goal

abbrev pub invariant-down : goal.invariant-down
invariant-down l = LeadsTo l.rows l.fn.n l.at

abbrev pub decreases-down : goal.decreases-down
decreases-down l = length l.rows - l.at.0
