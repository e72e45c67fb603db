use Rattle.std.proofs.Common.{◌≤◌}
use Rattle.cr_flow.specs.Under.{AreFirsts}
use Rattle.cr_flow.proofs.under.firsts.Given as goal

abbrev pub invariant-rows : goal.invariant-rows
invariant-rows l = record { within : l.n ≤ l.end; firsts : AreFirsts l.rows l.n l.firsts.items }

abbrev pub decreases-rows : goal.decreases-rows
decreases-rows l = l.n
