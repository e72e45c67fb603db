use Rattle.cr_items.specs.Channel.{new_channel}
use Rattle.cr_items.proofs.Lawful.{lawful_new, lawful_run}
use Rattle.cr_items.proofs.laws.channel_law.Goals as goal

pub returns-clause-joined : goal.returns-clause-joined
returns-clause-joined c = λ capacity operations. (lawful_run (new_channel capacity) operations (lawful_new capacity)).joined

pub returns-clause-lawful : goal.returns-clause-lawful
returns-clause-lawful c = λ capacity operations. lawful_run (new_channel capacity) operations (lawful_new capacity)

pub returns-clause-kept : goal.returns-clause-kept
returns-clause-kept c = lawful_run
