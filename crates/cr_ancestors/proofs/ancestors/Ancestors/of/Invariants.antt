use Rattle.std.proofs.Common.{◌≡◌}
use Rattle.cr_ancestors.specs.Making.{IsPartial, open_count}
use Rattle.cr_ancestors.proofs.ancestors.Ancestors.of.Given as goal

abbrev pub invariant-rounds : goal.invariant-rounds
invariant-rounds l = IsPartial l.hierarchy l.lists.items × (l.left ≡ open_count l.lists.items)

abbrev pub decreases-rounds : goal.decreases-rounds
decreases-rounds l = l.left
