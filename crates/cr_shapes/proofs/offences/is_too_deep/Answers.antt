use Rattle.std.proofs.Common.{◌∙◌, List, ap}
use Rattle.cr_core.specs.declared.row.Row.{Row}
use Rattle.cr_shapes.specs.Deciding.{is_too_deep}
use Rattle.cr_shapes.proofs.Decided.{deep_decided}
use Rattle.cr_shapes.proofs.offences.is_too_deep.Goals as goal

pub returns : goal.returns
returns c =
    let row = c.row.result.now in
    deep_decided c.args.core.now c.args.node row c.is_too_deep.result c.row.ensures
    (c.is_too_deep.ensures ∙ ap (λ (rows : List Row). is_too_deep rows c.args.node row) c.rows.ensures.rows)
