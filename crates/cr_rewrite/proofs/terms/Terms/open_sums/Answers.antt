use Rattle.cr_making.proofs.Done.{begins_as}
use Rattle.cr_rewrite.proofs.Left.{opens_none, opens_more}
use Rattle.cr_rewrite.proofs.terms.Terms.open_sums.Goals as goal

pub loop-i-init : goal.loop-i-init
loop-i-init g c = opens_none _

pub loop-i-preserved : goal.loop-i-preserved
loop-i-preserved g c = opens_more c.loop-i.i c.loop-i.invariant (begins_as c.sent_form.ensures c.in_ok-open.ensures) (begins_as c.sent_form-in-loop-i.ensures c.in_ok-open-2.ensures)
