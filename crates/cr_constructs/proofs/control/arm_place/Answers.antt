use Rattle.std.proofs.Common.{sym, ap}
use Rattle.cr_making.specs.Making.{Ahead}
use Rattle.cr_making.specs.Part.{Part}
use Rattle.cr_making.proofs.Tables.{facet, part_In, no_arm}
use Rattle.cr_constructs.proofs.control.arm_place.Goals as goal

pub returns-in-In : goal.returns-in-In
returns-in-In c = λ get. facet (λ (p : Part). (p.arm get).at) c.in-In.is (part_In _ _ _)

pub returns-in_default : goal.returns-in_default
returns-in_default c = λ get. sym (ap (λ (a : Ahead). a.at) (no_arm get c.args.tree.now c.in_default.not-In))
