use Rattle.std.proofs.Common.{◌≡◌, List, sym, ap, ◌∙◌, subst}
use Rattle.std.specs.Prelude.{All}
use Rattle.cr_core.specs.declared.row.Row.{Row}
use Rattle.cr_flow.specs.declared.assigned.Unassigned.{Unassigned}
use Rattle.cr_flow.specs.declared.outs.Outs.{Outs}
use Rattle.cr_flow.specs.declared.variable.Variable.{Variable}
use Rattle.cr_flow.specs.Chain.{IsForward}
use Rattle.cr_flow.specs.Outs.{reaches_end}
use Rattle.cr_flow.specs.Steps.{field_reach, IsStep}
use Rattle.cr_flow.specs.Several.{IsUnassigned}
use Rattle.cr_flow.proofs.Parts.{forward}
use Rattle.cr_flow.proofs.Told.{told_field}
use Rattle.cr_flow.proofs.several.unassigned.Goals as goal

pub reach_from-all-requires-clause-forward : goal.reach_from-all-requires-clause-forward
reach_from-all-requires-clause-forward c = subst (λ (rows : List Row). IsForward rows) (sym c.rows.ensures.rows) (forward c.args.tree.now.rows c.rows.ensures.core.arena)

pub reach_from-all-requires-clause-steps : goal.reach_from-all-requires-clause-steps
reach_from-all-requires-clause-steps c =
    subst (λ (rows : List Row). All (IsStep rows c.args.ranks.now c.args.z c.scope.result.now.body) c.args.steps.now) (sym c.rows.ensures.rows)
    (c.requires.steps c.scope.result.now c.scope.ensures)

pub returns : goal.returns
returns c =
    let t = c.args.tree.now in let s = c.scope.result.now in let k = c.in-Field.name in let ranks = c.args.ranks.now in
    let all : c.reach_from-all.result ≡ field_reach t.rows ranks k s.body = c.reach_from-all.ensures ∙ ap (λ (rows : List Row). field_reach rows ranks k s.body) c.rows.ensures.rows in
    let u : Unassigned = record { first_use = c.reach_from-all.result.found; end = c.reaches_end.result } in
    subst (λ (x : Variable). IsUnassigned t c.args.scope ranks x u) (sym c.in-Field.is)
    (told_field t c.args.scope s c.scope.ensures c.rows.ensures.core ranks k u (ap (λ (o : Outs). o.found) all) (c.reaches_end.ensures ∙ ap reaches_end all))
