use Rattle.std.specs.Prelude.{take}
use Rattle.cr_making.specs.Made.{Makes}
use Rattle.cr_making.specs.Part.{members_of}
use Rattle.cr_making.specs.Table.{parts}
use Rattle.cr_rewrite.proofs.program.members.Given as goal

abbrev pub invariant-loop-tree : goal.invariant-loop-tree
invariant-loop-tree l = Makes (members_of (parts (take l.tree-index l.list))) l.initial.maker l.maker
