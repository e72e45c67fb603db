use Rattle.std.proofs.Common.{arith, rules}
use Rattle.cr_lookup.proofs.Members.{within_all}
use Rattle.cr_lookup.proofs.rules.takes_all_of.Goals as goal

pub returns : goal.returns
returns c = (
  λ t. within_all c.args.classes c.args.list.now c.args.takes.now (λ i class low e within. c.loop-class.invariant i class (omega arith) e within),
  λ w. search rules,
)
