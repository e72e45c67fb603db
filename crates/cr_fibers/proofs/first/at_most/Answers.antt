use Rattle.std.proofs.Common.{◌∙◌, sym, arith}
use Rattle.std.proofs.lemmas.List.{take_all}
use Rattle.cr_fibers.proofs.Beginning.{at_most_take}
use Rattle.cr_fibers.proofs.first.at_most.Goals as goal

pub returns-then-values-most : goal.returns-then-values-most
returns-then-values-most c = sym (at_most_take c.args.most c.args.values.now ∙ take_all c.args.most c.args.values.now (omega arith))
