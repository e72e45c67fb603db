use Rattle.std.proofs.Common.{◌≡◌, ◌↔◌, IsTrue, Bool, true, false, refl, sym, ap, ◌∙◌, subst, List, [], Some, None}
use Rattle.cr_core.specs.declared.row.Row.{Row}
use Rattle.cr_flow.specs.declared.outs.Outs.{Outs}
use Rattle.cr_flow.specs.Ways.{Acts}
use Rattle.cr_flow.specs.Assigned.{IsAssigned}
use Rattle.cr_flow.specs.Chain.{IsForward}
use Rattle.cr_flow.specs.Uses.{asked}
use Rattle.cr_flow.specs.Outs.{reach}
use Rattle.cr_flow.proofs.Parts.{forward}
use Rattle.cr_flow.proofs.Law.{exactly_true, exactly_false, of_parameter, before, not_before}
use Rattle.cr_flow.proofs.assigned.assigned_before.Goals as goal

pub returns-then-is_parameter : goal.returns-then-is_parameter
returns-then-is_parameter c =
    exactly_true true (IsAssigned c.args.tree.now c.args.scope c.args.variable (Acts c.args.node)) refl
    (of_parameter c.args.tree.now c.args.scope c.args.variable c.scope-it.result.now c.scope-it.ensures (Acts c.args.node) (sym c.is_parameter.ensures ∙ c.if-is_parameter.true))

pub returns-in-None : goal.returns-in-None
returns-in-None c =
    let same : c.reach.result ≡ reach c.args.tree.now.rows (asked c.args.tree.now.rows (Some c.args.node) [] c.args.variable) c.args.variable c.scope-it.result.now.body =
    c.reach.ensures ∙ ap (λ (rows : List Row). reach rows (asked rows (Some c.args.node) [] c.args.variable) c.args.variable c.scope-it.result.now.body) c.rows.ensures.rows in
    exactly_true true (IsAssigned c.args.tree.now c.args.scope c.args.variable (Acts c.args.node)) refl
    (before c.args.tree.now c.args.scope c.args.variable c.scope-it.result.now c.scope-it.ensures c.rows.ensures.core (sym c.is_parameter.ensures ∙ c.if-is_parameter.false) c.args.node
    (ap (λ (o : Outs). o.found) (sym same) ∙ c.in-None.is))

pub returns-in-Some : goal.returns-in-Some
returns-in-Some c =
    let same : c.reach.result ≡ reach c.args.tree.now.rows (asked c.args.tree.now.rows (Some c.args.node) [] c.args.variable) c.args.variable c.scope-it.result.now.body =
    c.reach.ensures ∙ ap (λ (rows : List Row). reach rows (asked rows (Some c.args.node) [] c.args.variable) c.args.variable c.scope-it.result.now.body) c.rows.ensures.rows in
    exactly_false false (IsAssigned c.args.tree.now c.args.scope c.args.variable (Acts c.args.node)) refl
    (not_before c.args.tree.now c.args.scope c.args.variable c.scope-it.result.now c.scope-it.ensures c.rows.ensures.core (sym c.is_parameter.ensures ∙ c.if-is_parameter.false) c.args.node c.in-Some.field-0
    (ap (λ (o : Outs). o.found) (sym same) ∙ c.in-Some.is))

pub reach-requires : goal.reach-requires
reach-requires c = subst (λ (rows : List Row). IsForward rows) (sym c.rows.ensures.rows) (forward c.args.tree.now.rows c.rows.ensures.core.arena)
