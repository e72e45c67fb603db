use Rattle.std.proofs.Common.{ap}
use Rattle.cr_grammar.specs.declared.tree.Tree.{Tree}
use Rattle.cr_making.specs.Control.{case_of}
use Rattle.cr_making.specs.Table.{part, parts}
use Rattle.cr_making.proofs.Done.{makes_as}
use Rattle.cr_constructs.proofs.constructs.Constructs.case.Goals as goal

pub returns : goal.returns
returns g c = makes_as c.case_head.result c.args.maker.now c.case_head.new.maker (ap (λ (x : Tree). case_of c.args.at (part x).head (part c.args.value.now).own (parts c.args.clauses.now)) c.get.ensures) c.case_head.ensures
