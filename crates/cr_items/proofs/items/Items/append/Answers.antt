use Rattle.std.proofs.Common.{◌∙◌, ap, rules}
use Rattle.cr_items.specs.Channel.{Channel}
use Rattle.cr_items.proofs.Parts.{kept_append}
use Rattle.cr_items.proofs.items.Items.append.Goals as goal

pub invariant_of-self-else-is_err : goal.invariant_of-self-else-is_err
invariant_of-self-else-is_err c =
    kept_append _ _ _ _ _ record { number = c.len-number.result; from = c.args.from; value = c.args.v } c.in_ok-copy.copy _ _
    c.self.invariant
    (ap (λ (ch : Channel). ch.closed) c.self.view_is ∙ c.requires)
    (search rules)
    c.in_ok-copy.ensures
    (rw c.if-is_err.ensures.negation at c.push.ensures.items)
    c.in_ok-push_back.ensures.items
