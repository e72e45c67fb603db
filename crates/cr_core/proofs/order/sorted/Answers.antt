use Rattle.std.proofs.Common.{◌≡◌, map, ◌∙◌, ap}
use Rattle.std.proofs.lemmas.Result.{IfOk-weaker}
use Rattle.cr_core.specs.Placed.{row_of}
use Rattle.cr_core.specs.Order.{AreInOrder}
use Rattle.cr_core.proofs.Sorted.{in_order}
use Rattle.cr_core.proofs.order.sorted.Goals as goal

pub returns : goal.returns
returns c = IfOk-weaker c.nodes.result _ _ (λ nodes is. in_order c.args.rows.now c.args.scope c.in_ok-placed.placed.items c.sort.new.self.items nodes.items c.in_ok-placed.ensures c.in_ok-sort.ensures.permutation c.in_ok-sort.ensures.sorted (is ∙ ap (map row_of) c.deref.ensures.value)) c.nodes.ensures
