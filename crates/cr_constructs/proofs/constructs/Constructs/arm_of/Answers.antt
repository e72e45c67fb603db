use Rattle.cr_making.specs.Part.{Part}
use Rattle.cr_making.proofs.Done.{makes_as}
use Rattle.std.proofs.Common.{sym, ap}
use Rattle.cr_making.specs.Making.{Ahead}
use Rattle.cr_making.proofs.Tables.{facet, part_In, no_arm}
use Rattle.cr_constructs.proofs.constructs.Constructs.arm_of.Goals as goal

pub returns-in-In : goal.returns-in-In
returns-in-In g c = makes_as c.arm.result c.args.maker.now c.arm.new.maker (facet (λ (p : Part). (p.arm c.args.get).made) c.in-In.is (part_In _ _ _)) c.arm.ensures

pub returns-in_default : goal.returns-in_default
returns-in_default g c = makes_as c.nils.result c.args.maker.now c.nils.new.maker (sym (ap (λ (a : Ahead). a.made) (no_arm c.args.get c.args.tree.now c.in_default.not-In))) c.nils.ensures
