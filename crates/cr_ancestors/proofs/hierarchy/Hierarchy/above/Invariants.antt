use Rattle.std.proofs.Common.{◌-◌, length}
use Rattle.cr_ancestors.specs.Making.{IsClosing}
use Rattle.cr_ancestors.proofs.hierarchy.Hierarchy.above.Given as goal

abbrev pub invariant-upwards : goal.invariant-upwards
invariant-upwards l = IsClosing l.self l.fn.class l.found.items l.done

abbrev pub decreases-upwards : goal.decreases-upwards
decreases-upwards l = length l.self - l.done
