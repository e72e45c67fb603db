use Rattle.std.proofs.Common.{arith}
use Rattle.cr_making.specs.Declaring.{type_parameter}
use Rattle.cr_making.proofs.Done.{nothing_made}
use Rattle.cr_making.proofs.Names.{named_more, named_done}
use Rattle.cr_constructs.proofs.constructs.Constructs.type_parameters.Goals as goal

pub loop-name-init : goal.loop-name-init
loop-name-init g c = nothing_made _

pub loop-name-preserved : goal.loop-name-preserved
loop-name-preserved g c = named_more (type_parameter c.args.at) c.as_slice-name-items.result.now c.loop-name.name-index _ _ _ _ (omega arith) c.name-item.is c.loop-name.invariant c.in_ok-type_parameter.ensures

pub returns : goal.returns
returns g c = named_done (type_parameter c.args.at) c.as_slice-name-items.result.now _ c.loop-name.name-index _ _ c.as_slice-name-items.ensures (omega arith) c.loop-name.invariant
