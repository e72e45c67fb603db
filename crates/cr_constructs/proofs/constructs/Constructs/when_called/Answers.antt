use Rattle.std.specs.Prelude.{map}
use Rattle.std.proofs.Common.{ap, ◌∙◌}
use Rattle.cr_making.specs.declared.words.Operation.{Operation}
use Rattle.cr_making.specs.Words.{operation_of}
use Rattle.cr_making.specs.Control.{operate, target_head}
use Rattle.cr_making.specs.Part.{own_of}
use Rattle.cr_making.specs.Table.{part, parts, maybe_part}
use Rattle.cr_making.proofs.Done.{makes_as, nothing_made}
use Rattle.cr_constructs.proofs.constructs.Constructs.when_called.Goals as goal

pub returns-in-Some : goal.returns-in-Some
returns-in-Some g c = rw c.in-Some.is
    (makes_as c.operate.result c.args.maker.now c.operate.new.maker
    (ap (λ (o : Operation). operate o c.args.mark c.args.at (target_head (maybe_part c.args.target.now)) (part c.in-Some.channel).own (map own_of (parts c.args.arguments.now)) (parts c.args.body.now)) (c.operation_of-operation.ensures ∙ ap operation_of c.as_str.ensures))
    c.operate.ensures)

pub returns-in-None : goal.returns-in-None
returns-in-None g c = rw c.in-None.is (nothing_made _)
