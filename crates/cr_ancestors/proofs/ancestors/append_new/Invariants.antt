use Rattle.std.proofs.Common.{◌≡◌, length, take}
use Rattle.cr_ancestors.specs.Line.{kept}
use Rattle.cr_ancestors.proofs.ancestors.append_new.Given as goal

abbrev pub invariant-loop-class : goal.invariant-loop-class
invariant-loop-class l = l.list.items ≡ kept l.fn.list.items (take l.class-index l.more)
