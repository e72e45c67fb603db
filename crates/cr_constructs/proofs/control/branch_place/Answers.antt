use Rattle.std.proofs.Common.{sym, ap}
use Rattle.cr_making.specs.Making.{Ahead}
use Rattle.cr_making.specs.Part.{Part}
use Rattle.cr_making.proofs.Tables.{facet, part_Branch, no_branch}
use Rattle.cr_constructs.proofs.control.branch_place.Goals as goal

pub returns-in-Branch : goal.returns-in-Branch
returns-in-Branch c = facet (λ (p : Part). p.branch.at) c.in-Branch.is (part_Branch _ _ _)

pub returns-in_default : goal.returns-in_default
returns-in_default c = sym (ap (λ (a : Ahead). a.at) (no_branch c.args.tree.now c.in_default.not-Branch))
