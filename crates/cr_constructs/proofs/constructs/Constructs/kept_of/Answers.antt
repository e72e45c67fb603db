use Rattle.cr_making.specs.Part.{Part}
use Rattle.cr_making.proofs.Done.{makes_as, made_as, nothing_made}
use Rattle.std.proofs.Common.{sym}
use Rattle.cr_making.proofs.Tables.{facet, part_Parameter, not_kept}
use Rattle.cr_constructs.proofs.constructs.Constructs.kept_of.Goals as goal

pub returns-in-Parameter : goal.returns-in-Parameter
returns-in-Parameter g c = makes_as c.kept.result c.args.maker.now c.kept.new.maker (facet (λ (p : Part). p.kept) c.in-Parameter.is (part_Parameter _ _ _ _)) c.kept.ensures

pub returns-in_default : goal.returns-in_default
returns-in_default g c = made_as (sym (not_kept c.args.tree.now c.in_default.not-Parameter)) (nothing_made _)
