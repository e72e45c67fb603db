use Rattle.std.proofs.Common.{ℕ, map, refl, arith}
use Rattle.std.specs.Prelude.{Option, slice_set}
use Rattle.cr_meaning.specs.State.{State}
use Rattle.cr_meaning.specs.State as m
use Rattle.cr_meaning.specs.Builtins.{on_hash_cell}
use Rattle.cr_heap.specs.Cells.{cell_of}
use Rattle.cr_heap.proofs.Cells.{At, stands_at, replaced_at, operated}
use Rattle.cr_heap.proofs.heap.Heap.hash_operation.Goals as goal

pub returns-clause-ok : goal.returns-clause-ok
returns-clause-ok c =
    let at : At c.self.inside.cells.items c.args.self.now c.args.at.0 c.in-Some.cell.now
    = record { view = c.self.view_is; within = omega (arith, c.in-Some.ensures.variant.0 refl, c.self.inside.cells.ok.0); item = c.in-Some.ensures.value } in
    operated (λ (s : State) (k : ℕ) (cell : Option m.Cell). on_hash_cell s k c.args.operation c.args.arguments.now cell)
    c.args.self.now (map cell_of (slice_set c.self.inside.cells.items c.args.at.0 c.hash_operation.new.self)) c.answer.new.self c.args.at.0
    (cell_of c.in-Some.cell.now) (cell_of c.hash_operation.new.self) c.in_ok-answer.answer c.answer.result
    (stands_at _ _ _ _ at) (replaced_at _ _ _ _ c.hash_operation.new.self at) c.in_ok-answer.ensures.ok c.answer.ensures.ok
