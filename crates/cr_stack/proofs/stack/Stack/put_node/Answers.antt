use Rattle.std.proofs.Common.{ap, refl}
use Rattle.cr_stack.specs.declared.around.Now.TheVariants as now
use Rattle.cr_stack.specs.Layers.{Layers}
use Rattle.cr_stack.proofs.Stacks.{puts_new, neat_new}
use Rattle.cr_stack.proofs.stack.Stack.put_node.Goals as goal

pub returns-clause-step : goal.returns-clause-step
returns-clause-step c = puts_new _ _ _ (now.Node c.args.node) (ap (λ (s : Layers). s.around) c.self.view_is) refl (λ P. refl) c.requires

pub returns-clause-neat : goal.returns-clause-neat
returns-clause-neat c = λ rows n h. neat_new _ _ (now.Node c.args.node) (ap (λ (s : Layers). s.around) c.self.view_is) refl rows n h
