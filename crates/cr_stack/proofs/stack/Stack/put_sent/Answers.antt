use Rattle.std.proofs.Common.{ap, refl}
use Rattle.cr_stack.specs.declared.around.Now.TheVariants as now
use Rattle.cr_stack.specs.Layers.{Layers}
use Rattle.cr_stack.proofs.Stacks.{puts_new}
use Rattle.cr_stack.proofs.stack.Stack.put_sent.Goals as goal

pub returns-clause-step : goal.returns-clause-step
returns-clause-step c = puts_new _ _ _ (now.Sent c.args.channel c.args.item) (ap (λ (s : Layers). s.around) c.self.view_is) refl (λ P. refl) c.requires
