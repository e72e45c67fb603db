use Rattle.std.specs.Prelude.{take}
use Rattle.cr_making.specs.Made.{Makes}
use Rattle.cr_making.specs.Part.{each}
use Rattle.cr_making.specs.View.{viewed}
use Rattle.cr_making.specs.Table.{parts}
use Rattle.cr_making.proofs.rewriter.Rewriter.each.Given as goal

abbrev pub invariant-loop-tree : goal.invariant-loop-tree
invariant-loop-tree g l = Makes (each (viewed l.view) (parts (take l.tree-index l.tree-items))) l.initial.maker l.maker
