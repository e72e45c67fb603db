use Rattle.std.proofs.Common.{◌∙◌, ◌∷◌, [], ap, sym, arith}
use Rattle.cr_stack.specs.Layers.{Layers, frame_count}
use Rattle.cr_stack.specs.Steps.{finished}
use Rattle.cr_stack.proofs.Stacks.{closes, neat_closed, frame_count_append}
use Rattle.cr_stack.proofs.stack.Stack.close.Goals as goal

pub overflow_sub-self : goal.overflow_sub-self
overflow_sub-self c =
    let i = c.self.invariant in
    let p = ap frame_count c.in-Some.ensures.items in
    let q = frame_count_append c.pop.new.self.items (c.in-Some.layer ∷ []) in
    let f = c.frame_of.ensures in
    omega (arith, i, p, q, f)

pub invariant_of-self-2 : goal.invariant_of-self-2
invariant_of-self-2 c =
    let i = c.self.invariant in
    let p = ap frame_count c.in-Some.ensures.items in
    let q = frame_count_append c.pop.new.self.items (c.in-Some.layer ∷ []) in
    let f = c.frame_of.ensures in
    omega (arith, i, p, q, f)

pub returns-clause-step : goal.returns-clause-step
returns-clause-step c =
    closes c.args.self.now _ c.in-Some.layer (sym (ap (λ (s : Layers). s.around) c.self.view_is) ∙ c.in-Some.ensures.items)
    (c.finished.ensures ∙ ap (finished c.in-Some.layer) (c.replace-value.ensures.value ∙ ap (λ (s : Layers). s.focus) c.self.view_is)) c.requires

pub returns-clause-neat : goal.returns-clause-neat
returns-clause-neat c =
    neat_closed c.args.self.now _ c.in-Some.layer (sym (ap (λ (s : Layers). s.around) c.self.view_is) ∙ c.in-Some.ensures.items)
    (c.finished.ensures ∙ ap (finished c.in-Some.layer) (c.replace-value.ensures.value ∙ ap (λ (s : Layers). s.focus) c.self.view_is))
