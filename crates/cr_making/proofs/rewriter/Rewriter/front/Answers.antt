use Rattle.std.proofs.Common.{refl, ap, ◌∙◌, arith, map, length, List}
use Rattle.std.proofs.lemmas.List.{take_all}
use Rattle.cr_grammar.specs.declared.tree.Tree.{Tree}
use Rattle.cr_making.specs.Making.{ahead}
use Rattle.cr_making.specs.View.{said_lines}
use Rattle.cr_making.specs.Table.{parts}
use Rattle.cr_making.proofs.Done.{nests_none}
use Rattle.cr_making.proofs.Nests.{nests_as}
use Rattle.cr_making.proofs.Loops.{front_more, count_more, front_fits}
use Rattle.cr_making.proofs.rewriter.Rewriter.front.Goals as goal

pub loop-tree-init : goal.loop-tree-init
loop-tree-init g c = (nests_none _, refl)

pub loop-tree-preserved : goal.loop-tree-preserved
loop-tree-preserved g c = (
  front_more c.args.view c.args.at c.args.list.now c.loop-tree.tree-index _ _ _ _ (omega arith) c.tree-item.is c.loop-tree.invariant.0 c.in_ok-count.ensures.made,
  count_more c.args.view c.args.list.now c.loop-tree.tree-index _ c.loop-tree.count _ (omega arith) c.tree-item.is c.loop-tree.invariant.1 c.in_ok-count.ensures.count,
)

pub returns : goal.returns
returns g c =
    let whole = take_all c.loop-tree.tree-index c.args.list.now (omega arith) in
    record {
      made = nests_as (ap (λ (ts : List Tree). map (ahead c.args.at) (said_lines c.args.view (parts ts))) whole) c.loop-tree.invariant.0;
      count = c.loop-tree.invariant.1 ∙ ap (λ (ts : List Tree). length (said_lines c.args.view (parts ts))) whole;
    }

pub overflow_add-count : goal.overflow_add-count
overflow_add-count g c = omega (arith, front_fits c.args.view c.args.list.now c.loop-tree.tree-index c.loop-tree.count _ _ c.loop-tree.invariant.1 c.in_ok-count.ensures.count)
