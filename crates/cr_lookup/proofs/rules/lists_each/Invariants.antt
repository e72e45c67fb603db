use Rattle.std.proofs.Common.{◌≡◌, ◌<◌, true}
use Rattle.cr_base.specs.declared.ids.ClassId.{ClassId}
use Rattle.cr_ancestors.specs.Line.{has}
use Rattle.cr_lookup.proofs.rules.lists_each.Given as goal

abbrev pub invariant-loop-number : goal.invariant-loop-number
invariant-loop-number l = (class : ClassId) → class.0 < l.number → has l.list class ≡ true
