use Rattle.std.proofs.Common.{◌∙◌}
use Rattle.cr_making.proofs.Done.{join_made, flipped_made, puts_as}
use Rattle.cr_constructs.proofs.constructs.Constructs.sides.Goals as goal

pub returns-then-unless : goal.returns-then-unless
returns-then-unless g c =
    rw c.if-unless.true
    (flipped_made _ _ _ _ _ _ _ _ c.set_aside-before.ensures.empty c.set_aside-before.ensures.naming c.in_ok-statements.ensures (c.put_back-then.ensures.now ∙ c.set_aside-before.ensures.events) c.put_back-then.ensures.naming c.in_ok-branches.ensures (puts_as c.put_back-then.ensures.events c.in_ok-add.ensures))

pub returns : goal.returns
returns g c = rw c.if-unless.false (join_made c.in_ok-statements-2.ensures c.in_ok-branches-2.ensures)
