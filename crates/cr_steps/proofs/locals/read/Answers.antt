use Rattle.std.proofs.Common.{sym, ap, ◌∙◌}
use Rattle.std.proofs.lemmas.Result.{IfOk-weaker}
use Rattle.cr_meaning.specs.Locals.{read}
use Rattle.cr_steps.proofs.locals.read.Goals as goal

pub returns-in-Some : goal.returns-in-Some
returns-in-Some c = IfOk-weaker c.held.result _ _ (λ value is. λ P s same. ap (read s) (sym (c.in-Some.ensures P)) ∙ is P s same) c.held.ensures

pub returns-in-None : goal.returns-in-None
returns-in-None c = λ P s same. ap (read s) (sym (c.in-None.ensures P))
