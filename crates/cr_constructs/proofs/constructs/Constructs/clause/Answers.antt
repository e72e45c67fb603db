use Rattle.cr_making.specs.Part.{Part}
use Rattle.cr_making.proofs.Done.{makes_as, made_as, nothing_made}
use Rattle.std.proofs.Common.{sym}
use Rattle.cr_making.proofs.Tables.{facet, part_When, no_clause}
use Rattle.cr_constructs.proofs.constructs.Constructs.clause.Goals as goal

pub returns-in-When : goal.returns-in-When
returns-in-When g c = makes_as c.when.result c.args.maker.now c.when.new.maker (facet (λ (p : Part). p.clause) c.in-When.is (part_When _ _ _ _)) c.when.ensures

pub returns-in_default : goal.returns-in_default
returns-in_default g c = made_as (sym (no_clause c.args.tree.now c.in_default.not-When)) (nothing_made _)
