use Rattle.cr_making.proofs.Loops.{IsUntil}
use Rattle.cr_making.proofs.lists.until_last.Given as goal

abbrev pub invariant-loop-i : goal.invariant-loop-i
invariant-loop-i l = IsUntil l.view l.list l.i l.count
