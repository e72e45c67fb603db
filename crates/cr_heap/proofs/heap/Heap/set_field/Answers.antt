use Rattle.std.proofs.Common.{map, refl, sym, ◌∙◌, arith}
use Rattle.std.specs.Prelude.{slice_set}
use Rattle.std.specs.Option.{option_copied}
use Rattle.cr_heap.specs.Cells.{cell_of}
use Rattle.cr_heap.proofs.Cells.{At, stands_at, replaced_at, unchanged_err}
use Rattle.cr_heap.proofs.Receivers.{assigned}
use Rattle.cr_heap.proofs.heap.Heap.set_field.Goals as goal

pub returns-clause-ok : goal.returns-clause-ok
returns-clause-ok c =
    let at : At c.self.inside.cells.items c.args.self.now c.in-Some.at c.in-Some-get_mut.cell.now
    = record { view = c.self.view_is; within = omega (arith, c.in-Some-get_mut.ensures.variant.0 refl, c.self.inside.cells.ok.0); item = c.in-Some-get_mut.ensures.value } in
    assigned c.args.name c.args.value.now (option_copied c.args.receiver) c.args.self.now
    (map cell_of (slice_set c.self.inside.cells.items c.in-Some.at c.set_field.new.self)) c.in-Some.at
    (cell_of c.in-Some-get_mut.cell.now) (cell_of c.set_field.new.self) c.set_field.result
    (sym c.in-Some.is ∙ c.receiver_cell.ensures) (stands_at _ _ _ _ at) (replaced_at _ _ _ _ c.set_field.new.self at) c.set_field.ensures.ok

pub returns-clause-err : goal.returns-clause-err
returns-clause-err c =
    let at : At c.self.inside.cells.items c.args.self.now c.in-Some.at c.in-Some-get_mut.cell.now
    = record { view = c.self.view_is; within = omega (arith, c.in-Some-get_mut.ensures.variant.0 refl, c.self.inside.cells.ok.0); item = c.in-Some-get_mut.ensures.value } in
    unchanged_err _ _ _ _ c.set_field.new.self c.set_field.result at c.set_field.ensures.err
