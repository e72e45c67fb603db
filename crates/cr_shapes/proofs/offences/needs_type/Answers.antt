use Rattle.std.proofs.Common.{◌∙◌, List, ap}
use Rattle.cr_core.specs.declared.row.Row.{Row}
use Rattle.cr_shapes.specs.Deciding.{needs_type}
use Rattle.cr_shapes.proofs.Decided.{need_decided}
use Rattle.cr_shapes.proofs.offences.needs_type.Goals as goal

pub returns : goal.returns
returns c =
    let row = c.row.result.now in
    need_decided c.args.core.now c.args.node row c.needs_type.result c.row.ensures (c.needs_type.ensures ∙ ap (λ (rows : List Row). needs_type rows row) c.rows.ensures.rows)
