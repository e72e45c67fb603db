use Rattle.cr_steps.proofs.acting.give.Goals as goal

pub returns-clause-step : goal.returns-clause-step
returns-clause-step c = λ P same. c.put_value.ensures.step.is P same
