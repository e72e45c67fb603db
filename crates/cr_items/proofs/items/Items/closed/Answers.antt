use Rattle.cr_items.proofs.Parts.{lawful_view}
use Rattle.cr_items.proofs.items.Items.closed.Goals as goal

pub returns-clause-lawful : goal.returns-clause-lawful
returns-clause-lawful c = lawful_view _ _ _ _ _ _ c.self.invariant c.self.view_is
