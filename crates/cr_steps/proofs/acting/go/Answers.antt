use Rattle.cr_steps.proofs.acting.go.Goals as goal

pub put_node-requires : goal.put_node-requires
put_node-requires c = record { opened = c.requires.opened; reduced = c.requires.fits.0; term = c.requires.fits.1 }

pub returns-clause-step : goal.returns-clause-step
returns-clause-step c = λ P same. c.put_node.ensures.step.is P same
