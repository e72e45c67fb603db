use Rattle.std.proofs.Common.{◌≡◌, List, refl, sym, subst}
use Rattle.cr_core.specs.declared.row.Row.{Row}
use Rattle.cr_flow.specs.Chain.{IsForward}
use Rattle.cr_flow.proofs.Forest.{trees, is_forward}
use Rattle.cr_flow.proofs.tests.forest.Goals as goal

pub returns : goal.returns
returns c = subst (λ (rows : List Row). IsForward rows) (sym (c.in_ok-rows.ensures.rows trees refl)) is_forward
