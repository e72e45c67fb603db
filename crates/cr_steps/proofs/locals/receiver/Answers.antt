use Rattle.std.proofs.Common.{sym, ◌∙◌}
use Rattle.std.proofs.lemmas.Result.{IfOk-weaker}
use Rattle.cr_steps.proofs.locals.receiver.Goals as goal

pub returns : goal.returns
returns c = IfOk-weaker c.copied.result _ _ (λ value is. λ P. sym (c.receiver.ensures P) ∙ sym is) c.copied.ensures
