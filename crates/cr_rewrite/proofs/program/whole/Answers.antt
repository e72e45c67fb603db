use Rattle.cr_rewrite.specs.Whole.{program}
use Rattle.cr_rewrite.proofs.Whole.{whole_made}
use Rattle.cr_rewrite.proofs.program.whole.Goals as goal

pub returns : goal.returns
unfolding program
returns c = whole_made c.args.prelude.now c.args.source.now c.list_of-before.result.now c.list_of-list.result.now c.in_ok-opened.opened c.list_of-before.ensures.members c.list_of-before.ensures.statements c.list_of-list.ensures.members c.list_of-list.ensures.statements c.in_ok-opened.ensures.count
    c.in_ok-open.ensures c.turn.ensures c.in_ok-members.ensures c.turn-2.ensures c.in_ok-members-2.ensures c.in_ok-opened.ensures.made c.in_ok-sequence.ensures c.in_ok-close_all.ensures c.in_ok-close.ensures
