use Rattle.std.specs.Prelude.{◌≡◌, take, map, length}
use Rattle.cr_core.specs.declared.form.Form.TheVariants.{Seq}
use Rattle.cr_making.specs.Made.{Nests}
use Rattle.cr_making.specs.Making.{ahead}
use Rattle.cr_making.specs.View.{said_lines}
use Rattle.cr_making.specs.Table.{parts}
use Rattle.cr_making.proofs.rewriter.Rewriter.front.Given as goal

abbrev pub invariant-loop-tree : goal.invariant-loop-tree
invariant-loop-tree g l =
    Nests Seq (map (ahead l.at) (said_lines l.view (parts (take l.tree-index l.list)))) l.initial.maker l.maker
    × (l.count ≡ length (said_lines l.view (parts (take l.tree-index l.list))))
