use Rattle.cr_lookup.proofs.Members.{some_class}
use Rattle.cr_lookup.proofs.rules.takes_some.Goals as goal

pub returns-in-Any : goal.returns-in-Any
returns-in-Any c = some_class c.args.classes c.args.takes.now c.in-Any.is
