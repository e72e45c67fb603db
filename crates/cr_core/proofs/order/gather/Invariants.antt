use Rattle.std.proofs.Common.{◌≡◌, ◌≤◌, ◌^◌, ◌++◌, length, drop}
use Rattle.cr_core.specs.Placed.{placed_in}
use Rattle.cr_core.proofs.order.gather.Given as goal

abbrev pub invariant-loop-number : goal.invariant-loop-number
invariant-loop-number l = l.placed.items ++ placed_in l.scope l.number (drop l.number l.rows) ≡ placed_in l.scope 0 l.rows
