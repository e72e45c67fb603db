use Rattle.cr_pieces.proofs.Written.{one_more}
use Rattle.cr_pieces.proofs.put.put_blank.Goals as goal

pub loop-i-preserved : goal.loop-i-preserved
loop-i-preserved c = one_more c.loop-i._i c.args.out.now.items c.loop-i.out.items c.put_byte.new.out.items c.loop-i.invariant c.in_ok-put_byte.ensures
