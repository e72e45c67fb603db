use Rattle.std.proofs.Common.{◌≡◌, map, take}
use Rattle.cr_ancestors.specs.Above.{ups}
use Rattle.cr_ancestors.proofs.hierarchy.all_ups.Given as goal

abbrev pub invariant-loop-each : goal.invariant-loop-each
invariant-loop-each l = l.lists.items ≡ map ups (take l.each-index l.parents)
