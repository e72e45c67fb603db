use Rattle.std.proofs.Common.{ap}
use Rattle.cr_grammar.specs.declared.tree.Tree.{Tree}
use Rattle.cr_making.specs.Control.{when, target_head}
use Rattle.cr_making.specs.Table.{part, parts, maybe_part}
use Rattle.cr_making.proofs.Done.{makes_as}
use Rattle.cr_constructs.proofs.constructs.Constructs.when.Goals as goal

pub returns : goal.returns
returns g c = makes_as c.when_head.result c.args.maker.now c.when_head.new.maker (ap (λ (x : Tree). when c.args.mark (target_head (maybe_part c.args.target.now)) (part x).head (parts c.args.body.now)) c.get.ensures) c.when_head.ensures
