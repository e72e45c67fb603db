use Rattle.std.proofs.Common.{List, [], ap}
use Rattle.cr_grammar.specs.declared.tree.Tree.{Tree}
use Rattle.cr_making.specs.Terms.{block}
use Rattle.cr_making.specs.Table.{parts}
use Rattle.cr_making.proofs.Done.{makes_as}
use Rattle.cr_rewrite.proofs.terms.Terms.empty_block.Goals as goal

pub returns : goal.returns
returns g c = makes_as c.plain_block.result c.args.maker.now c.plain_block.new.maker (ap (λ (xs : List Tree). block c.args.at [] (parts xs)) c.new-none.ensures) c.plain_block.ensures
