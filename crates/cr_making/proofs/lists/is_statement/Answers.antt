use Rattle.std.proofs.Common.{sym}
use Rattle.cr_making.proofs.Tables.{statement}
use Rattle.cr_making.proofs.lists.is_statement.Goals as goal

pub returns-in_default : goal.returns-in_default
returns-in_default c = sym (statement c.args.tree.now c.in_default.not-Class c.in_default.not-Module c.in_default.not-Include c.in_default.not-Declaration c.in_default.not-Accessors c.in_default.not-Def)
