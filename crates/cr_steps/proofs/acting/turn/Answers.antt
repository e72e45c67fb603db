use Rattle.cr_steps.proofs.acting.turn.Goals as goal

pub put_turn-requires : goal.put_turn-requires
put_turn-requires c = record { opened = c.requires.opened; reduced = c.requires.fits.0; term = c.requires.fits.1 }

pub returns-clause-step : goal.returns-clause-step
returns-clause-step c = λ P same. c.put_turn.ensures.step.is P same
