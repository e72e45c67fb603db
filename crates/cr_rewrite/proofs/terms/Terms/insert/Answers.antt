use Rattle.std.proofs.Common.{arith}
use Rattle.cr_rewrite.proofs.Left.{follows_none, insert_more}
use Rattle.cr_rewrite.proofs.terms.Terms.insert.Goals as goal

pub loop-i-init : goal.loop-i-init
loop-i-init g c = follows_none _

pub loop-i-preserved : goal.loop-i-preserved
loop-i-preserved g c = insert_more c.args.at c.args.to_s c.args.texts.now c.args.inserted.now c.loop-i.i _ _ (omega arith) (omega arith) c.index-texts-i.is c.index-inserted-i.is
    c.loop-i.invariant c.in_ok-insertion.ensures c.in_ok-close.ensures c.in_ok-text.ensures c.in_ok-close-2.ensures
