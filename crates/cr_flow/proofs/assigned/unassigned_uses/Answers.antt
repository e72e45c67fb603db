use Rattle.std.proofs.Common.{◌≡◌, ◌↔◌, IsTrue, Bool, refl, sym, ap, ◌∙◌, subst, List, Option, None}
use Rattle.cr_core.specs.declared.row.Row.{Row}
use Rattle.cr_flow.specs.declared.outs.Outs.{Outs}
use Rattle.cr_flow.specs.Ways.{Acts, End}
use Rattle.cr_flow.specs.Assigned.{IsAssigned}
use Rattle.cr_flow.specs.Chain.{IsForward}
use Rattle.cr_flow.specs.Uses.{asked}
use Rattle.cr_flow.specs.Outs.{reach, reaches_end}
use Rattle.cr_flow.proofs.Parts.{forward}
use Rattle.cr_flow.proofs.Law.{exactly_end, first, at_end}
use Rattle.cr_flow.proofs.assigned.unassigned_uses.Goals as goal

pub reach-all-requires : goal.reach-all-requires
reach-all-requires c = subst (λ (rows : List Row). IsForward rows) (sym c.rows.ensures.rows) (forward c.args.tree.now.rows c.rows.ensures.core.arena)

pub returns-clause-first_use : goal.returns-clause-first_use
returns-clause-first_use c =
    let same : c.reach-all.result ≡ reach c.args.tree.now.rows (asked c.args.tree.now.rows None c.args.ranks.now c.args.variable) c.args.variable c.scope-it.result.now.body =
    c.reach-all.ensures ∙ ap (λ (rows : List Row). reach rows (asked rows None c.args.ranks.now c.args.variable) c.args.variable c.scope-it.result.now.body) c.rows.ensures.rows in
    first c.args.tree.now c.args.scope c.args.variable c.scope-it.result.now c.scope-it.ensures c.rows.ensures.core (sym c.is_parameter.ensures ∙ c.if-is_parameter.false) c.args.ranks.now c.reach-all.result.found
    (ap (λ (o : Outs). o.found) same)

pub returns-clause-end : goal.returns-clause-end
returns-clause-end c =
    let same : c.reaches_end.result ≡ reaches_end (reach c.args.tree.now.rows (asked c.args.tree.now.rows None c.args.ranks.now c.args.variable) c.args.variable c.scope-it.result.now.body) =
    c.reaches_end.ensures ∙ ap reaches_end (c.reach-all.ensures ∙ ap (λ (rows : List Row). reach rows (asked rows None c.args.ranks.now c.args.variable) c.args.variable c.scope-it.result.now.body) c.rows.ensures.rows) in
    subst (λ (b : Bool). IsTrue b ↔ ¬ (IsAssigned c.args.tree.now c.args.scope c.args.variable End)) (sym same)
    (exactly_end (reaches_end (reach c.args.tree.now.rows (asked c.args.tree.now.rows None c.args.ranks.now c.args.variable) c.args.variable c.scope-it.result.now.body)) (IsAssigned c.args.tree.now c.args.scope c.args.variable End)
    (at_end c.args.tree.now c.args.scope c.args.variable c.scope-it.result.now c.scope-it.ensures (asked c.args.tree.now.rows None c.args.ranks.now c.args.variable) c.rows.ensures.core (sym c.is_parameter.ensures ∙ c.if-is_parameter.false)))
