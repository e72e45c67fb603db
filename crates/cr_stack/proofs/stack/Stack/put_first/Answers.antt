use Rattle.std.proofs.Common.{◌≡◌, List, ap, refl, ◌∙◌, ◌++◌, ◌∷◌, [], arith}
use Rattle.cr_value.specs.declared.value.Value.{Value}
use Rattle.cr_stack.specs.declared.around.Around.TheVariants as a
use Rattle.cr_stack.specs.declared.around.Now.TheVariants as now
use Rattle.cr_stack.specs.Layers.{Layers, frame_count}
use Rattle.cr_stack.proofs.Stacks.{puts_pushed, neat_pushed, frame_count_append}
use Rattle.cr_stack.proofs.stack.Stack.put_first.Goals as goal

pub returns-clause-step : goal.returns-clause-step
returns-clause-step c =
    let inside = c.self.inside.around.items in
    let pushed = c.push_within.ensures ∙ ap (λ (vs : List Value). inside ++ a.Part c.args.node vs ∷ []) c.new.ensures ∙ ap (λ (s : Layers). s.around ++ a.Part c.args.node [] ∷ []) c.self.view_is in
    puts_pushed _ _ _ (a.Part c.args.node []) (now.Ready c.args.first c.args.values) pushed refl (λ P. refl) c.requires.reduced

pub returns-clause-neat : goal.returns-clause-neat
returns-clause-neat c = λ rows n v h.
    let inside = c.self.inside.around.items in
    let pushed = c.push_within.ensures ∙ ap (λ (vs : List Value). inside ++ a.Part c.args.node vs ∷ []) c.new.ensures ∙ ap (λ (s : Layers). s.around ++ a.Part c.args.node [] ∷ []) c.self.view_is in
    neat_pushed _ _ (a.Part c.args.node []) (now.Ready c.args.first c.args.values) pushed refl rows n v h

pub invariant_of-self : goal.invariant_of-self
invariant_of-self c =
    let i = c.self.invariant in
    let p = ap frame_count c.push_within.ensures in
    let q = frame_count_append c.self.inside.around.items (a.Part c.args.node c.new.result ∷ []) in
    omega (arith, i, p, q)
