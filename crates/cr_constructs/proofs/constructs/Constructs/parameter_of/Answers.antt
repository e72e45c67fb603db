use Rattle.cr_making.specs.Part.{Part}
use Rattle.cr_making.proofs.Done.{makes_as, made_as, nothing_made}
use Rattle.std.proofs.Common.{sym}
use Rattle.cr_making.proofs.Tables.{facet, part_Parameter, no_parameter}
use Rattle.cr_constructs.proofs.constructs.Constructs.parameter_of.Goals as goal

pub returns-in-Parameter : goal.returns-in-Parameter
returns-in-Parameter g c = makes_as c.parameter.result c.args.maker.now c.parameter.new.maker (facet (λ (p : Part). p.parameter) c.in-Parameter.is (part_Parameter _ _ _ _)) c.parameter.ensures

pub returns-in_default : goal.returns-in_default
returns-in_default g c = made_as (sym (no_parameter c.args.tree.now c.in_default.not-Parameter)) (nothing_made _)
