use Rattle.std.proofs.Common.{◌+◌, Option, None, Some, sym, subst}
use Rattle.cr_names.specs.declared.offence.What.{What}
use Rattle.cr_names.specs.declared.offence.Offence.{Offence}
use Rattle.cr_names.specs.Leading.{IsBest}
use Rattle.cr_names.specs.Offences.{IsFirstAt}
use Rattle.cr_names.proofs.Earliest.{one_more_none, one_more_some}
use Rattle.cr_names.proofs.least.with_node.Goals as goal

pub returns-in-None : goal.returns-in-None
returns-in-None c =
    let t = c.args.lookup.now.core.now in
    let n = c.args.node.0 in
    let first : IsFirstAt t n None = subst (λ (o : Option What). IsFirstAt t n o) c.in-None.is c.in_ok-offence_at.ensures in
    one_more_none t n c.args.best first c.requires.best

pub returns-in-Some : goal.returns-in-Some
returns-in-Some c =
    let t = c.args.lookup.now.core.now in
    let n = c.args.node in
    let what = c.in-Some.what in
    let first : IsFirstAt t n.0 (Some what) = subst (λ (o : Option What). IsFirstAt t n.0 o) c.in-Some.is c.in_ok-offence_at.ensures in
    subst (λ (o : Offence). IsBest t (n.0 + 1) o) (sym c.earlier.ensures) (one_more_some t n what c.args.best first c.requires.best)
