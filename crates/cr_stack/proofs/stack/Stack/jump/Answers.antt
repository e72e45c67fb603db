use Rattle.std.proofs.Common.{◌∙◌, ◌-◌, ap, subst, arith, vec_len, vec_capacity}
use Rattle.cr_stack.specs.Layers.{Layers}
use Rattle.cr_stack.specs.Jumps.{Comes, left_frames}
use Rattle.cr_stack.proofs.Leaving.{comes, comes_neat, comes_count}
use Rattle.cr_stack.proofs.stack.Stack.jump.Goals as goal

pub overflow_sub-self : goal.overflow_sub-self
overflow_sub-self c =
    let i = c.self.invariant in
    let n = comes_count c.args.exit c.self.inside.around.items c.jump-told.new.around.items c.self.inside.focus c.jump-told.new.focus c.jump-told.result c.jump-told.ensures in
    let f = c.left_frames.ensures ∙ ap (λ b. left_frames b c.jump-told.result) c.returns-returns.ensures in
    omega (arith, i, n, f)

pub invariant_of-self : goal.invariant_of-self
invariant_of-self c =
    let i = c.self.invariant in
    let n = comes_count c.args.exit c.self.inside.around.items c.jump-told.new.around.items c.self.inside.focus c.jump-told.new.focus c.jump-told.result c.jump-told.ensures in
    let f = c.left_frames.ensures ∙ ap (λ b. left_frames b c.jump-told.result) c.returns-returns.ensures in
    omega (arith, i, n, f)

pub returns-clause-step : goal.returns-clause-step
returns-clause-step c = λ P h.
    let new : Layers = record { around = c.jump-told.new.around.items; focus = c.jump-told.new.focus; room = vec_capacity c.jump-told.new.around - vec_len c.jump-told.new.around } in
    comes P c.args.exit c.args.self.now new h c.requires c.jump-told.result
    (subst (λ (s : Layers). Comes s.around s.focus c.args.exit c.jump-told.new.around.items c.jump-told.new.focus c.jump-told.result) c.self.view_is c.jump-told.ensures)

pub returns-clause-neat : goal.returns-clause-neat
returns-clause-neat c = λ rows h.
    let new : Layers = record { around = c.jump-told.new.around.items; focus = c.jump-told.new.focus; room = vec_capacity c.jump-told.new.around - vec_len c.jump-told.new.around } in
    comes_neat rows c.args.exit c.args.self.now new c.jump-told.result
    (subst (λ (s : Layers). Comes s.around s.focus c.args.exit c.jump-told.new.around.items c.jump-told.new.focus c.jump-told.result) c.self.view_is c.jump-told.ensures) h
