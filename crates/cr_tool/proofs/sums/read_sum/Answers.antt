use Rattle.std.proofs.Common.{◌∙◌}
use Rattle.cr_tool.proofs.SumTexts.{sum_parts}
use Rattle.cr_tool.proofs.sums.read_sum.Goals as goal

pub returns-in_err-first : goal.returns-in_err-first
returns-in_err-first c =
    rw c.from_residual.ensures (λ s form is. c.in_err-first.ensures s.first form.0 (c.split_at.ensures.front ∙ (sum_parts s c.args.text.now c.find-space.result form is c.find-space.ensures).0))

pub returns-in_err-second : goal.returns-in_err-second
returns-in_err-second c =
    rw c.from_residual-in_err-second.ensures (λ s form is. c.in_err-second.ensures s.second form.1 (c.split_at.ensures.back ∙ (sum_parts s c.args.text.now c.find-space.result form is c.find-space.ensures).1))
