use Rattle.cr_lookup.proofs.Best.{least_at}
use Rattle.cr_lookup.proofs.choice.least_at.Goals as goal

pub returns : goal.returns
returns c = least_at c.args.classes c.args.methods.now c.args.sought c.args.args.now c.in_ok-least.least c.method_at.result.now c.in_ok-least.ensures c.method_at.ensures
