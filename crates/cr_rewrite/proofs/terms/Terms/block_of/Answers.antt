use Rattle.cr_making.specs.Part.{Part}
use Rattle.cr_making.proofs.Done.{makes_as}
use Rattle.std.proofs.Common.{sym}
use Rattle.cr_making.proofs.Tables.{facet, part_Block, no_block}
use Rattle.cr_rewrite.proofs.terms.Terms.block_of.Goals as goal

pub returns-in-Block : goal.returns-in-Block
returns-in-Block g c = makes_as c.block.result c.args.maker.now c.block.new.maker (facet (λ (p : Part). p.block c.args.at) c.in-Block.is (part_Block _ _)) c.block.ensures

pub returns-in_default : goal.returns-in_default
returns-in_default g c = makes_as c.empty_block.result c.args.maker.now c.empty_block.new.maker (sym (no_block c.args.at c.args.tree.now c.in_default.not-Block)) c.empty_block.ensures
