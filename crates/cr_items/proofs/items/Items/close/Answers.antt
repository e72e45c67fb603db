use Rattle.cr_items.proofs.Parts.{kept_close}
use Rattle.cr_items.proofs.items.Items.close.Goals as goal

pub invariant_of-self : goal.invariant_of-self
invariant_of-self c = rw c.truncate.ensures.items (kept_close _ _ _ _ _ c.self.invariant)
