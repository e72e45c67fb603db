use Rattle.std.proofs.Common.{◌≡◌, ◌↔◌, IsTrue, Bool, true, refl, sym, ap, ◌∙◌, subst, List, [], None}
use Rattle.std.specs.Prelude.{not}
use Rattle.cr_core.specs.declared.row.Row.{Row}
use Rattle.cr_flow.specs.Ways.{End}
use Rattle.cr_flow.specs.Assigned.{IsAssigned}
use Rattle.cr_flow.specs.Uses.{asked}
use Rattle.cr_flow.specs.Outs.{reach, reaches_end}
use Rattle.cr_flow.specs.Chain.{IsForward}
use Rattle.cr_flow.proofs.Parts.{forward}
use Rattle.cr_flow.proofs.Law.{exactly_true, of_parameter, at_end}
use Rattle.cr_flow.proofs.assigned.assigned_at_end.Goals as goal

pub returns-then-is_parameter : goal.returns-then-is_parameter
returns-then-is_parameter c =
    exactly_true true (IsAssigned c.args.tree.now c.args.scope c.args.variable End) refl
    (of_parameter c.args.tree.now c.args.scope c.args.variable c.scope-it.result.now c.scope-it.ensures End (sym c.is_parameter.ensures ∙ c.if-is_parameter.true))

pub returns-else-is_parameter : goal.returns-else-is_parameter
returns-else-is_parameter c =
    let same : c.reaches_end.result ≡ reaches_end (reach c.args.tree.now.rows (asked c.args.tree.now.rows None [] c.args.variable) c.args.variable c.scope-it.result.now.body) =
    c.reaches_end.ensures ∙ ap reaches_end (c.reach.ensures ∙ ap (λ (rows : List Row). reach rows (asked rows None [] c.args.variable) c.args.variable c.scope-it.result.now.body) c.rows.ensures.rows) in
    subst (λ (b : Bool). IsTrue (not b) ↔ IsAssigned c.args.tree.now c.args.scope c.args.variable End) (sym same)
    (at_end c.args.tree.now c.args.scope c.args.variable c.scope-it.result.now c.scope-it.ensures (asked c.args.tree.now.rows None [] c.args.variable) c.rows.ensures.core (sym c.is_parameter.ensures ∙ c.if-is_parameter.false))

pub reach-requires : goal.reach-requires
reach-requires c = subst (λ (rows : List Row). IsForward rows) (sym c.rows.ensures.rows) (forward c.args.tree.now.rows c.rows.ensures.core.arena)
