use Rattle.std.proofs.Common.{ap}
use Rattle.cr_grammar.specs.declared.tree.Tree.{Tree}
use Rattle.cr_making.specs.Control.{receive}
use Rattle.cr_making.specs.Table.{part, parts}
use Rattle.cr_making.proofs.Done.{makes_as}
use Rattle.cr_constructs.proofs.constructs.Constructs.receive_boxed.Goals as goal

pub returns : goal.returns
returns g c = makes_as c.receive_as.result c.args.maker.now c.receive_as.new.maker (ap (λ (x : Tree). receive c.args.form c.args.mark c.args.at (part x).head (part c.args.channel.now).own (parts c.args.body.now)) c.get.ensures) c.receive_as.ensures
