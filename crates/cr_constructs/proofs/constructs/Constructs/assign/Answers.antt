use Rattle.std.proofs.Common.{ap}
use Rattle.cr_grammar.specs.declared.tree.Tree.{Tree}
use Rattle.cr_making.specs.Assigning.{assign}
use Rattle.cr_making.specs.Table.{part}
use Rattle.cr_making.proofs.Done.{makes_as}
use Rattle.cr_constructs.proofs.constructs.Constructs.assign.Goals as goal

pub returns : goal.returns
returns g c = makes_as c.assign_to.result c.args.maker.now c.assign_to.new.maker (ap (λ (x : Tree). assign c.args.at (part x).head c.args.operator c.args.mark (part c.args.value.now).own) c.get.ensures) c.assign_to.ensures
