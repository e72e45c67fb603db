use Rattle.std.proofs.Common.{◌≡◌, map}
use Rattle.cr_tables.specs.Numbers.{first_classes}
use Rattle.cr_tables.specs.Making.{parents_by}
use Rattle.cr_tables.proofs.above.all_parents.Given as goal

abbrev pub invariant-loop-number : goal.invariant-loop-number
invariant-loop-number l = l.parents.items ≡ map (parents_by l.kinds l.inclusions l.superclasses) (first_classes l.number)
