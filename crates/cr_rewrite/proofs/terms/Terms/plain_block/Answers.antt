use Rattle.std.proofs.Common.{List, ap}
use Rattle.cr_grammar.specs.declared.tree.Tree.{Tree}
use Rattle.cr_making.specs.Terms.{block}
use Rattle.cr_making.specs.Table.{parts}
use Rattle.cr_making.proofs.Done.{makes_as}
use Rattle.cr_rewrite.proofs.terms.Terms.plain_block.Goals as goal

pub returns : goal.returns
returns g c = makes_as c.block.result c.args.maker.now c.block.new.maker (ap (λ (xs : List Tree). block c.args.at (parts xs) (parts c.args.body.now)) c.new-none.ensures) c.block.ensures
