use Rattle.std.proofs.Common.{◌≡◌, ◌+◌, drop, reverse}
use Rattle.cr_making.specs.Naming.{resolved_from}
use Rattle.cr_making.proofs.naming.Naming.resolve.Given as goal

abbrev pub invariant-loop-up : goal.invariant-loop-up
invariant-loop-up l = resolved_from (l.up + 1) l.name (drop l.up (reverse l.self.around.items)) ≡ resolved_from 1 l.name (reverse l.self.around.items)
