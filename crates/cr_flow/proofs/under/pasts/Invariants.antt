use Rattle.std.proofs.Common.{◌≡◌, ◌+◌, ◌≤◌, length}
use Rattle.cr_flow.specs.Under.{ArePasts}
use Rattle.cr_flow.proofs.under.pasts.Given as goal

abbrev pub invariant-rows : goal.invariant-rows
invariant-rows l = record { told : l.n + length l.pasts.items ≡ l.end; pasts : ArePasts l.rows l.end l.pasts.items }

abbrev pub decreases-rows : goal.decreases-rows
decreases-rows l = l.n
