use Rattle.std.proofs.Common.{◌∙◌}
use Rattle.cr_tables.proofs.Tabled.{hierarchy_is}
use Rattle.cr_tables.proofs.above.hierarchy.Goals as goal

pub returns-in-Ok : goal.returns-in-Ok
returns-in-Ok c =
    hierarchy_is c.args.lookup.now.core.now c.args.kinds.now c.as_slice-3.result.now c.as_slice-4.result.now c.as_slice-5.result.now c.in-Ok.hierarchy
    c.requires.kinds (c.as_slice-3.ensures.value ∙ c.in_ok-inclusions.ensures) (c.as_slice-4.ensures.value ∙ c.in_ok-superclasses.ensures)
    (c.as_slice-5.ensures.value ∙ c.in_ok-parents.ensures) c.in-Ok.ensures.ok
