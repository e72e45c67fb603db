use Rattle.std.proofs.Common.{ap, refl, ◌∙◌, ◌++◌, ◌∷◌, [], arith}
use Rattle.cr_stack.specs.declared.around.Around.TheVariants as a
use Rattle.cr_stack.specs.declared.around.Now.TheVariants as now
use Rattle.cr_stack.specs.Layers.{Layers, frame_count}
use Rattle.cr_stack.proofs.Stacks.{puts_pushed, neat_pushed, frame_count_append}
use Rattle.cr_stack.proofs.stack.Stack.put_turn.Goals as goal

pub returns-clause-step : goal.returns-clause-step
returns-clause-step c =
    puts_pushed _ _ _ (a.Turn c.args.node) (now.Node c.args.node) (c.push_within.ensures ∙ ap (λ (s : Layers). s.around ++ (a.Turn c.args.node) ∷ []) c.self.view_is) refl (λ P. refl) c.requires.reduced

pub returns-clause-neat : goal.returns-clause-neat
returns-clause-neat c = λ rows n h.
    neat_pushed _ _ (a.Turn c.args.node) (now.Node c.args.node) (c.push_within.ensures ∙ ap (λ (s : Layers). s.around ++ (a.Turn c.args.node) ∷ []) c.self.view_is) refl rows n n h

pub invariant_of-self : goal.invariant_of-self
invariant_of-self c =
    let i = c.self.invariant in
    let p = ap frame_count c.push_within.ensures in
    let q = frame_count_append c.self.inside.around.items ((a.Turn c.args.node) ∷ []) in
    omega (arith, i, p, q)
