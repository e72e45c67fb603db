use Rattle.cr_making.specs.Part.{Part}
use Rattle.cr_making.proofs.Done.{makes_as, made_as, nothing_made}
use Rattle.std.proofs.Common.{sym}
use Rattle.cr_making.proofs.Tables.{facet, part_Pair, no_pair}
use Rattle.cr_rewrite.proofs.terms.Terms.pair.Goals as goal

pub returns-in-Pair : goal.returns-in-Pair
returns-in-Pair g c = makes_as c.two.result c.args.maker.now c.two.new.maker (facet (λ (p : Part). p.pair) c.in-Pair.is (part_Pair _ _)) c.two.ensures

pub returns-in_default : goal.returns-in_default
returns-in_default g c = made_as (sym (no_pair c.args.tree.now c.in_default.not-Pair)) (nothing_made _)
