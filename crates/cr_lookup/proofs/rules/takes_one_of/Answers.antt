use Rattle.std.proofs.Common.{arith, refl, false}
use Rattle.cr_lookup.proofs.Members.{none_met, refuted}
use Rattle.cr_lookup.proofs.rules.takes_one_of.Goals as goal

pub returns : goal.returns
returns c = (
  λ t. absurd (refuted false refl t),
  λ m. absurd (none_met c.args.classes c.args.list.now c.args.takes.now (λ i class low e within fit. c.loop-class.invariant i class (omega arith) e within fit) m),
)
