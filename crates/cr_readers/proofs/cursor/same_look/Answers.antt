use Rattle.std.proofs.Common.{rules}
use Rattle.cr_readers.specs.Reader.{same_look}
use Rattle.cr_readers.proofs.cursor.same_look.Goals as goal

pub returns : goal.returns
unfolding same_look
returns c = search rules
