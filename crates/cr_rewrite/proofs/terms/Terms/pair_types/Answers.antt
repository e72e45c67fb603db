use Rattle.cr_making.specs.Part.{Part}
use Rattle.cr_making.proofs.Done.{makes_as}
use Rattle.std.proofs.Common.{sym}
use Rattle.cr_making.proofs.Tables.{facet, part_Pair, no_pair_types}
use Rattle.cr_rewrite.proofs.terms.Terms.pair_types.Goals as goal

pub returns-in-Pair : goal.returns-in-Pair
returns-in-Pair g c = makes_as c.two_unions.result c.args.maker.now c.two_unions.new.maker (facet (λ (p : Part). p.pair_types c.args.at) c.in-Pair.is (part_Pair _ _)) c.two_unions.ensures

pub returns-in_default : goal.returns-in_default
returns-in_default g c = makes_as c.no_unions.result c.args.maker.now c.no_unions.new.maker (sym (no_pair_types c.args.at c.args.tree.now c.in_default.not-Pair)) c.no_unions.ensures
