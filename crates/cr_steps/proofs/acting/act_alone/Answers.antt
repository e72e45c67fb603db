use Rattle.cr_meaning.specs.Term.{Turn, Val, tree}
use Rattle.cr_fibers.specs.Held.{fiber_of}
use Rattle.cr_steps.specs.Step.{with_own}
use Rattle.cr_steps.proofs.Acted.{put_is, own_is, closed_is, jumped_as, jumped_same_as}
use Rattle.cr_steps.proofs.Done.{by_step, went_is}
use Rattle.cr_steps.proofs.acting.act_alone.Goals as goal

pub returns-in-Gives-clause-step : goal.returns-in-Gives-clause-step
returns-in-Gives-clause-step c = λ P s i same at. by_step P s i c.args.fiber.now c.args.step _ _ c.in-Gives.is (went_is _ _ _ c.give.ensures.told (put_is P s i c.args.fiber.now c.give.new.fiber at (Val c.in-Gives.value) (c.give.ensures.step P same)))

pub returns-in-SetsShared-clause-step : goal.returns-in-SetsShared-clause-step
returns-in-SetsShared-clause-step c = λ P s i same at. by_step P s i c.args.fiber.now c.args.step _ _ c.in-SetsShared.is (went_is _ _ _ c.give-in-SetsShared.ensures.told (put_is P s i c.args.fiber.now c.give-in-SetsShared.new.fiber at (Val c.in-SetsShared.shown) (c.give-in-SetsShared.ensures.step P same)))

pub returns-in-SetsOwn-clause-step : goal.returns-in-SetsOwn-clause-step
returns-in-SetsOwn-clause-step c = λ P s i same at. by_step P s i c.args.fiber.now c.args.step _ _ c.in-SetsOwn.is (went_is _ _ _ c.set_own.ensures.told (own_is P s i c.args.fiber.now c.set_own.new.fiber at (with_own (fiber_of P c.args.fiber.now) c.in-SetsOwn.named c.in-SetsOwn.value) c.in-SetsOwn.shown (c.set_own.ensures.step P same)))

pub returns-in-Goes-clause-step : goal.returns-in-Goes-clause-step
returns-in-Goes-clause-step c = λ P s i same at. by_step P s i c.args.fiber.now c.args.step _ _ c.in-Goes.is (went_is _ _ _ c.go.ensures.told (put_is P s i c.args.fiber.now c.go.new.fiber at (tree P c.in-Goes.node) (c.go.ensures.step P same)))

pub returns-in-Turns-clause-step : goal.returns-in-Turns-clause-step
returns-in-Turns-clause-step c = λ P s i same at. by_step P s i c.args.fiber.now c.args.step _ _ c.in-Turns.is (went_is _ _ _ c.turn.ensures.told (put_is P s i c.args.fiber.now c.turn.new.fiber at (Turn (tree P c.in-Turns.node) (tree P c.in-Turns.node)) (c.turn.ensures.step P same)))

pub returns-in-Jumps-clause-step : goal.returns-in-Jumps-clause-step
returns-in-Jumps-clause-step c = λ P s i same at. by_step P s i c.args.fiber.now c.args.step _ _ c.in-Jumps.is (jumped_as P s i c.args.fiber.now c.jump.new.self at c.in-Jumps.exit c.jump.result c.told.result c.told.ensures (c.jump.ensures.step P same))

pub returns-in-Jumps-clause-same : goal.returns-in-Jumps-clause-same
returns-in-Jumps-clause-same c = λ clear P same. jumped_same_as P c.args.fiber.now c.jump.new.self c.in-Jumps.exit c.jump.result c.told.result c.told.ensures clear (c.jump.ensures.step P same)

pub returns-in-Ends-clause-step : goal.returns-in-Ends-clause-step
returns-in-Ends-clause-step c = λ P s i same at. by_step P s i c.args.fiber.now c.args.step _ _ c.in-Ends.is (went_is _ _ _ c.end.ensures.told (closed_is P s i c.args.fiber.now c.end.new.fiber at (c.end.ensures.step P same)))
