use Rattle.std.specs.Prelude.{take}
use Rattle.cr_rewrite.specs.Left.{Follows}
use Rattle.cr_making.specs.Terms as t
use Rattle.cr_making.specs.Table.{parts}
use Rattle.cr_rewrite.proofs.terms.Terms.insert.Given as goal

abbrev pub invariant-loop-i : goal.invariant-loop-i
invariant-loop-i g l = Follows (t.insertions_with l.at l.to_s (take l.i l.texts) (parts (take l.i l.inserted))) l.initial.maker l.maker
