use Rattle.cr_meaning.proofs.Passing.{partner_is_met}
use Rattle.cr_meaning.proofs.histories.partners_are_met.Goals as goal

pub returns : goal.returns
returns c = partner_is_met
