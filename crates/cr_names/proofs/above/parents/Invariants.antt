use Rattle.std.proofs.Common.{◌≡◌, map, take}
use Rattle.cr_ancestors.specs.Above.{ups}
use Rattle.cr_names.proofs.above.parents.Given as goal

abbrev pub invariant-loop-list : goal.invariant-loop-list
invariant-loop-list l = map ups l.parents.items ≡ take l.list-index l.lists
