use Rattle.cr_meaning.proofs.Runs.{channels_are_lawful}
use Rattle.cr_meaning.proofs.histories.channels_are_lawful.Goals as goal

pub returns : goal.returns
returns c = channels_are_lawful c.channel_law.ensures.lawful c.received_law.ensures.front
