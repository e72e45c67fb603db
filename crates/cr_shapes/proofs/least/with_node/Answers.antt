use Rattle.std.proofs.Common.{◌+◌, List, Option, None, Some, ap, ◌∙◌, sym, subst}
use Rattle.cr_core.specs.declared.row.Row.{Row}
use Rattle.cr_shapes.specs.declared.offence.What.{What}
use Rattle.cr_shapes.specs.declared.offence.Offence.{Offence}
use Rattle.cr_shapes.specs.Leading.{IsFirstAt, IsBest, earlier}
use Rattle.cr_shapes.proofs.Earliest.{one_more_none, one_more_some}
use Rattle.cr_shapes.proofs.least.with_node.Goals as goal

pub returns-in-None : goal.returns-in-None
returns-in-None c =
    let t = c.args.core.now in
    let n = c.args.node.0 in
    let first : IsFirstAt t n None = subst (λ (o : Option What). IsFirstAt t n o) c.in-None.is c.offence_at.ensures in
    one_more_none t n c.args.best first c.requires.best

pub returns-in-Some : goal.returns-in-Some
returns-in-Some c =
    let t = c.args.core.now in
    let n = c.args.node in
    let what = c.in-Some.what in
    let first : IsFirstAt t n.0 (Some what) = subst (λ (o : Option What). IsFirstAt t n.0 o) c.in-Some.is c.offence_at.ensures in
    subst (λ (o : Offence). IsBest t (n.0 + 1) o) (sym (c.earlier.ensures ∙ ap (λ (rows : List Row). earlier rows c.args.best (record { node = n; what = what })) c.rows.ensures.rows)) (one_more_some t n what c.args.best first c.requires.best)
