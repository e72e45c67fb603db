use Rattle.std.proofs.Common.{◌≡◌, ◌≤◌, take}
use Rattle.cr_ancestors.specs.Making.{open_count}
use Rattle.cr_ancestors.proofs.ancestors.open_count.Given as goal

abbrev pub invariant-loop-list : goal.invariant-loop-list
invariant-loop-list l = (l.count ≡ open_count (take l.list-index l.lists)) × (l.count ≤ l.list-index)
