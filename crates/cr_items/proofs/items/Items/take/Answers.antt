use Rattle.std.proofs.Common.{◌∙◌, ap}
use Rattle.cr_items.specs.Channel.{after_take}
use Rattle.cr_items.proofs.Parts.{kept_take, cut_take}
use Rattle.cr_items.proofs.items.Items.take.Goals as goal

pub invariant_of-self-2 : goal.invariant_of-self-2
invariant_of-self-2 c = kept_take _ _ _ _ _ c.in_ok-value.value _ c.self.invariant c.in_ok-value.ensures.items

pub returns-clause-moved : goal.returns-clause-moved
returns-clause-moved c =
    cut_take _ _ _ _ _ c.in_ok-value.value _ c.self.invariant c.in_ok-value.ensures.items ∙ ap after_take c.self.view_is
