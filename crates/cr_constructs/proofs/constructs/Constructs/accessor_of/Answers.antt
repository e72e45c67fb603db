use Rattle.cr_making.specs.Part.{Part}
use Rattle.cr_making.proofs.Done.{makes_as, made_as, nothing_made}
use Rattle.std.proofs.Common.{sym}
use Rattle.cr_making.proofs.Tables.{facet, part_Accessor, no_accessor}
use Rattle.cr_constructs.proofs.constructs.Constructs.accessor_of.Goals as goal

pub returns-in-Accessor : goal.returns-in-Accessor
returns-in-Accessor g c = makes_as c.accessor.result c.args.maker.now c.accessor.new.maker (facet (λ (p : Part). p.accessor c.args.property) c.in-Accessor.is (part_Accessor _ _ _)) c.accessor.ensures

pub returns-in_default : goal.returns-in_default
returns-in_default g c = made_as (sym (no_accessor c.args.property c.args.tree.now c.in_default.not-Accessor)) (nothing_made _)
