use Rattle.std.specs.Prelude.{◌≡◌, take, map, length}
use Rattle.cr_core.specs.declared.form.Form.TheVariants.{Seq}
use Rattle.cr_making.specs.Made.{Nests}
use Rattle.cr_making.specs.Making.{Making, ahead, in_prelude}
use Rattle.cr_making.specs.Part.{statements_of}
use Rattle.cr_making.specs.Table.{parts}
use Rattle.cr_rewrite.proofs.program.prelude_statements.Given as goal

abbrev pub invariant-loop-tree : goal.invariant-loop-tree
invariant-loop-tree l =
    Nests Seq (map (λ (m : Making). ahead 0 (in_prelude m)) (statements_of (parts (take l.tree-index l.list)))) l.initial.maker l.maker
    × (l.count ≡ length (statements_of (parts (take l.tree-index l.list))))
