use Rattle.std.proofs.Common.{◌≡◌, take}
use Rattle.cr_ancestors.specs.Line.{kept}
use Rattle.cr_ancestors.proofs.hierarchy.add.Given as goal

abbrev pub invariant-loop-class : goal.invariant-loop-class
invariant-loop-class l = l.found.items ≡ kept l.fn.found.items (take l.class-index l.classes)
