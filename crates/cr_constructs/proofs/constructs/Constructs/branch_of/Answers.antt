use Rattle.cr_making.specs.Part.{Part}
use Rattle.cr_making.proofs.Done.{makes_as}
use Rattle.std.proofs.Common.{sym, ap}
use Rattle.cr_making.specs.Making.{Ahead}
use Rattle.cr_making.proofs.Tables.{facet, part_Branch, no_branch}
use Rattle.cr_constructs.proofs.constructs.Constructs.branch_of.Goals as goal

pub returns-in-Branch : goal.returns-in-Branch
returns-in-Branch g c = makes_as c.branch-self.result c.args.maker.now c.branch-self.new.maker (facet (λ (p : Part). p.branch.made) c.in-Branch.is (part_Branch _ _ _)) c.branch-self.ensures

pub returns-in_default : goal.returns-in_default
returns-in_default g c = makes_as c.nils.result c.args.maker.now c.nils.new.maker (sym (ap (λ (a : Ahead). a.made) (no_branch c.args.tree.now c.in_default.not-Branch))) c.nils.ensures
