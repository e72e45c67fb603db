use Rattle.std.proofs.Common.{sym}
use Rattle.cr_making.specs.Part.{Part}
use Rattle.cr_making.proofs.Tables.{facet, part_Parameter, no_field}
use Rattle.cr_making.proofs.lists.is_field.Goals as goal

pub returns-in-Parameter : goal.returns-in-Parameter
returns-in-Parameter c = facet (λ (p : Part). p.is_field) c.in-Parameter.is (part_Parameter _ _ _ _)

pub returns-in_default : goal.returns-in_default
returns-in_default c = sym (no_field c.args.tree.now c.in_default.not-Parameter)
