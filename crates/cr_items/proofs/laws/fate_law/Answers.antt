use Rattle.cr_items.proofs.Fates.{fate_is}
use Rattle.cr_items.proofs.laws.fate_law.Goals as goal

pub returns-clause-passed : goal.returns-clause-passed
returns-clause-passed c = λ channel number h sent. (fate_is channel number h sent).passed

pub returns-clause-waits : goal.returns-clause-waits
returns-clause-waits c = λ channel number h sent. (fate_is channel number h sent).waits

pub returns-clause-withdrawn : goal.returns-clause-withdrawn
returns-clause-withdrawn c = λ channel number h sent. (fate_is channel number h sent).withdrawn
