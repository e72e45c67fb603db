use Rattle.std.proofs.Common.{ap, refl, ◌∙◌, ◌++◌, ◌∷◌, [], arith}
use Rattle.cr_stack.specs.declared.around.Around.TheVariants as a
use Rattle.cr_stack.specs.declared.around.Now.TheVariants as now
use Rattle.cr_stack.specs.Layers.{Layers, frame_count}
use Rattle.cr_stack.proofs.Stacks.{puts_pushed, neat_pushed, frame_count_append, frame_count_few}
use Rattle.cr_stack.proofs.stack.Stack.put_call.Goals as goal

pub returns-clause-step : goal.returns-clause-step
returns-clause-step c =
    puts_pushed _ _ _ (a.Frame c.args.gives) (now.Node c.args.node) (c.push_within.ensures ∙ ap (λ (s : Layers). s.around ++ (a.Frame c.args.gives) ∷ []) c.self.view_is) refl (λ P. refl) c.requires.reduced

pub returns-clause-neat : goal.returns-clause-neat
returns-clause-neat c = λ rows n h.
    neat_pushed _ _ (a.Frame c.args.gives) (now.Node c.args.node) (c.push_within.ensures ∙ ap (λ (s : Layers). s.around ++ (a.Frame c.args.gives) ∷ []) c.self.view_is) refl rows tt n h

pub invariant_of-self : goal.invariant_of-self
invariant_of-self c =
    let i = c.self.invariant in
    let p = ap frame_count c.push_within.ensures in
    let q = frame_count_append c.self.inside.around.items ((a.Frame c.args.gives) ∷ []) in
    omega (arith, i, p, q)

pub overflow_add-self : goal.overflow_add-self
overflow_add-self c =
    let i = c.self.invariant in
    let few = frame_count_few c.self.inside.around.items in
    let p = c.self.inside.around.ok.0 in
    let q = c.self.inside.around.ok.1 in
    let s = c.self.inside.around.small in
    omega (arith, i, few, p, q, s)
