use Rattle.cr_shapes.proofs.Decided.{row_at, yield_decided, no_yield}
use Rattle.cr_shapes.proofs.offences.is_yield_in_spawn.Goals as goal

pub is_spawned-requires-clause-there : goal.is_spawned-requires-clause-there
is_spawned-requires-clause-there c =
    let t = c.args.core.now in
    let n = c.args.node.0 in
    let row = c.index-rows-node.result in
    (c.rows-rows.ensures.core.rows n row (row_at t c.rows-rows.result.now n row c.rows-rows.ensures.rows c.requires c.index-rows-node.is)).scope

pub returns-in-Yield : goal.returns-in-Yield
returns-in-Yield c =
    let t = c.args.core.now in
    let row = c.index-rows-node.result in
    let at = row_at t c.rows-rows.result.now c.args.node.0 row c.rows-rows.ensures.rows c.requires c.index-rows-node.is in
    yield_decided t c.args.node row c.is_spawned.result at c.rows-rows.ensures.core c.in-Yield.is c.is_spawned.ensures

pub returns-in_default : goal.returns-in_default
returns-in_default c =
    let t = c.args.core.now in
    let row = c.index-rows-node.result in
    let at = row_at t c.rows-rows.result.now c.args.node.0 row c.rows-rows.ensures.rows c.requires c.index-rows-node.is in
    no_yield t c.args.node row at c.in_default.not-Yield
