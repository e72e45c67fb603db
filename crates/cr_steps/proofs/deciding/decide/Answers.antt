use Rattle.std.proofs.Common.{sym, subst}
use Rattle.cr_stack.specs.Neat.{IsNeat}
use Rattle.cr_fibers.specs.Held.{fiber_of}
use Rattle.cr_steps.proofs.Decided.{choice_is, turn_is}
use Rattle.cr_steps.proofs.deciding.decide.Goals as goal

pub returns-in-Choice-clause-step : goal.returns-in-Choice-clause-step
returns-in-Choice-clause-step c = λ P s i choice same fibers at.
    choice_is P c.args.tree.now.rows s i (fiber_of P c.args.fiber.now) choice c.in-Choice._node c.in-Choice._clauses.now same (c.in-Choice.ensures.whole c.args.tree.now.rows c.requires.neat)
    (c.in-Choice.ensures.shown P (subst (λ rows. IsNeat rows c.args.fiber.now.layers) (sym same) c.requires.neat))

pub returns-in-Turn-clause-step : goal.returns-in-Turn-clause-step
returns-in-Turn-clause-step c = λ P s i choice same fibers at.
    let shown = c.in-Turn.ensures.shown P (subst (λ rows. IsNeat rows c.args.fiber.now.layers) (sym same) c.requires.neat) in
    turn_is P s i (fiber_of P c.args.fiber.now) choice shown.0 shown.1 shown.2 at
