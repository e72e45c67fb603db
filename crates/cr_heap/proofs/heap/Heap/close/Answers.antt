use Rattle.std.proofs.Common.{refl, arith}
use Rattle.cr_items.specs.Channel.{Channel, Close, after}
use Rattle.cr_heap.proofs.Cells.{At, channel_at}
use Rattle.cr_heap.proofs.heap.Heap.close.Goals as goal

pub returns : goal.returns
returns c =
    let at : At c.self.inside.cells.items c.args.self.now c.args.at.0 c.in-Some.cell.now
    = record { view = c.self.view_is; within = omega (arith, c.in-Some.ensures.variant.0 refl, c.self.inside.cells.ok.0); item = c.in-Some.ensures.value } in
    channel_at (λ (channel : Channel). after channel Close) _ _ _ _ c.close.new.self at c.close.ensures
