use Rattle.std.proofs.Common.{refl, arith}
use Rattle.cr_items.specs.Channel.{Channel, Append, after}
use Rattle.cr_heap.proofs.Cells.{At, channel_ok, unchanged_err}
use Rattle.cr_heap.proofs.heap.Heap.append.Goals as goal

pub returns-clause-ok : goal.returns-clause-ok
returns-clause-ok c =
    let at : At c.self.inside.cells.items c.args.self.now c.args.at.0 c.in-Some.cell.now
    = record { view = c.self.view_is; within = omega (arith, c.in-Some.ensures.variant.0 refl, c.self.inside.cells.ok.0); item = c.in-Some.ensures.value } in
    channel_ok (λ (channel : Channel). after channel (Append c.args.from c.args.v)) _ _ _ _ c.append.new.self c.append.result at c.append.ensures.ok

pub returns-clause-err : goal.returns-clause-err
returns-clause-err c =
    let at : At c.self.inside.cells.items c.args.self.now c.args.at.0 c.in-Some.cell.now
    = record { view = c.self.view_is; within = omega (arith, c.in-Some.ensures.variant.0 refl, c.self.inside.cells.ok.0); item = c.in-Some.ensures.value } in
    unchanged_err _ _ _ _ c.append.new.self c.append.result at c.append.ensures.err
