use Rattle.std.proofs.Common.{List, ap}
use Rattle.cr_grammar.specs.declared.tree.Tree.{Tree}
use Rattle.cr_making.specs.Making.{sequence}
use Rattle.cr_making.specs.Part.{statements, statements_of}
use Rattle.cr_making.specs.Table.{parts}
use Rattle.cr_making.proofs.Done.{made_as}
use Rattle.cr_making.proofs.rewriter.Rewriter.statements.Goals as goal

pub returns : goal.returns
unfolding statements
returns g c = made_as (ap (λ (ts : List Tree). sequence c.args.at (statements_of (parts ts))) c.as_slice.ensures) c.in_ok-sequence.ensures
