use Rattle.std.proofs.Common.{arith}
use Rattle.cr_making.specs.Table.{part, parts}
use Rattle.cr_making.proofs.Done.{makes_as, made_as, nothing_made}
use Rattle.cr_making.proofs.Alone.{send_one, send_none}
use Rattle.cr_constructs.proofs.constructs.Constructs.send.Goals as goal

pub returns-in-len1 : goal.returns-in-len1
returns-in-len1 g c = makes_as c.send_value.result c.args.maker.now c.send_value.new.maker
    (send_one c.args.mark c.args.at (part c.args.channel.now).own c.as_slice.result.now c.args.arguments.now _ (parts c.args.body.now) c.as_slice.ensures (omega arith) c.value-item.is) c.send_value.ensures

pub returns-in_default : goal.returns-in_default
returns-in_default g c = made_as (send_none c.args.mark c.args.at (part c.args.channel.now).own c.as_slice.result.now c.args.arguments.now (parts c.args.body.now) c.as_slice.ensures (λ e. omega arith)) (nothing_made _)

pub returns-in_default-2 : goal.returns-in_default-2
returns-in_default-2 g c = made_as (send_none c.args.mark c.args.at (part c.args.channel.now).own c.as_slice.result.now c.args.arguments.now (parts c.args.body.now) c.as_slice.ensures (λ e. omega arith)) (nothing_made _)
