use Rattle.std.proofs.Common.{◌∙◌, sym, refl}
use Rattle.cr_stack.specs.declared.around.Around.TheVariants as a
use Rattle.cr_stack.proofs.Stacks.{ends_here, last_neat}
use Rattle.cr_stack.proofs.going.proceed.Goals as goal

pub take-requires-clause-lacks : goal.take-requires-clause-lacks
take-requires-clause-lacks c =
    last_neat c.args.tree.now.rows c.args.around.now.items c.pop.new.self.items c.in-Some.layer (a.Part c.in-Part.node c.in-Part.values) c.in-Some.ensures.items c.in-Part.is c.requires.neat

pub take_in_choice-requires-clause-lacks : goal.take_in_choice-requires-clause-lacks
take_in_choice-requires-clause-lacks c =
    last_neat c.args.tree.now.rows c.args.around.now.items c.pop.new.self.items c.in-Some.layer (a.Choice c.in-Choice.node c.in-Choice.clauses c.in-Choice.values) c.in-Some.ensures.items c.in-Choice.is c.requires.neat

pub returns-in_default-layer : goal.returns-in_default-layer
returns-in_default-layer c = (
  c.push_within.ensures ∙ sym c.in-Some.ensures.items,
  refl,
  ends_here c.args.around.now.items c.pop.new.self.items c.in-Some.layer c.in-Some.ensures.items c.in_default-layer.not-Part c.in_default-layer.not-Choice,
)
