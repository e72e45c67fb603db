use Rattle.std.proofs.Common.{sym}
use Rattle.cr_making.specs.Control.{when, target_head}
use Rattle.cr_making.specs.Part.{Part}
use Rattle.cr_making.specs.Table.{parts, maybe_part}
use Rattle.cr_making.proofs.Done.{makes_as, made_as, nothing_made}
use Rattle.cr_making.proofs.Tables.{facet, part_Call, no_call_when}
use Rattle.cr_constructs.proofs.constructs.Constructs.when_head.Goals as goal

pub returns-in-Call : goal.returns-in-Call
returns-in-Call g c = makes_as c.when_called.result c.args.maker.now c.when_called.new.maker (facet (λ (p : Part). when c.args.mark (target_head (maybe_part c.args.target.now)) p.head (parts c.args.body.now)) c.in-Call.is (part_Call _ _ _ _ _)) c.when_called.ensures

pub returns-in_default : goal.returns-in_default
returns-in_default g c = made_as (sym (no_call_when c.args.mark (target_head (maybe_part c.args.target.now)) (parts c.args.body.now) c.args.operation.now c.in_default.not-Call)) (nothing_made _)
