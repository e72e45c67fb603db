use Rattle.cr_making.specs.Made.{Makes}
use Rattle.cr_making.specs.Terms.{locals}
use Rattle.cr_making.proofs.rewriter.Rewriter.locals.Given as goal

abbrev pub invariant-loop-i : goal.invariant-loop-i
invariant-loop-i g l = Makes (locals l.at l.first l.i) l.initial.maker l.maker
