use Rattle.cr_making.proofs.Loops.{sequence_done, sequence_empty}
use Rattle.cr_making.proofs.rewriter.Rewriter.sequence.Goals as goal

pub returns : goal.returns
returns g c = sequence_done c.args.view c.args.at c.until_last-count.result c.in_ok-opened.opened c.args.list.now c.in-Some.front.now c.in-Some.last.now _ _ _ _
    c.until_last-count.ensures c.in-Some.ensures.cases.0 c.in_ok-opened.ensures.count c.in_ok-opened.ensures.made c.in_ok-one.ensures c.in_ok-close_all.ensures

pub returns-in_default : goal.returns-in_default
returns-in_default g c = sequence_empty c.args.view c.args.at c.until_last-count.result c.args.list.now _ _ c.until_last-count.ensures c.in_default.ensures.cases c.in_ok-leaf.ensures
