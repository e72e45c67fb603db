use Rattle.std.proofs.lemmas.Result.{IfOk-weaker}
use Rattle.cr_fibers.specs.Held.{fiber_of}
use Rattle.cr_steps.proofs.Decided.{node_is, node_there, read_row, whole_is}
use Rattle.cr_steps.proofs.Parts.{parts_are}
use Rattle.cr_steps.proofs.deciding.decide_node.Goals as goal

pub bounds-rows-node : goal.bounds-rows-node
bounds-rows-node c = node_there c.args.tree.now.rows c.rows-rows.result.now c.args.node c.args.values.now c.rows-rows.ensures.rows c.requires

pub decide_row-requires : goal.decide_row-requires
decide_row-requires c =
    whole_is c.args.tree.now c.rows-rows.ensures.core c.args.node c.args.values.now c.index-rows-node.result c.requires
    (read_row c.args.tree.now.rows c.rows-rows.result.now c.args.node c.args.values.now c.index-rows-node.result c.rows-rows.ensures.rows c.requires c.index-rows-node.is)

pub returns-clause-step : goal.returns-clause-step
returns-clause-step c =
    IfOk-weaker c.decide_row.result _ _
    (λ it is. λ P s i choice same fibers.
    node_is P c.args.tree.now.rows s i (fiber_of P c.args.fiber.now) choice c.args.node c.args.values.now c.index-rows-node.result it same c.requires
    (read_row c.args.tree.now.rows c.rows-rows.result.now c.args.node c.args.values.now c.index-rows-node.result c.rows-rows.ensures.rows c.requires c.index-rows-node.is) (is P s i choice fibers))
    c.decide_row.ensures.step

pub returns-clause-there : goal.returns-clause-there
returns-clause-there c =
    IfOk-weaker c.decide_row.result _ _
    (λ it is. is c.args.tree.now.rows
    (parts_are c.args.tree.now c.rows-rows.ensures.core c.args.node c.index-rows-node.result
    (read_row c.args.tree.now.rows c.rows-rows.result.now c.args.node c.args.values.now c.index-rows-node.result c.rows-rows.ensures.rows c.requires c.index-rows-node.is)))
    c.decide_row.ensures.there
