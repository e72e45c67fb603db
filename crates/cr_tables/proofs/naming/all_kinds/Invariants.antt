use Rattle.std.proofs.Common.{◌≡◌, map}
use Rattle.cr_tables.specs.Numbers.{is_class, first_classes}
use Rattle.cr_tables.proofs.naming.all_kinds.Given as goal

abbrev pub invariant-loop-number : goal.invariant-loop-number
invariant-loop-number l = l.kinds.items ≡ map (is_class l.lookup.core.now) (first_classes l.number)
