use Rattle.std.proofs.Common.{refl}
use Rattle.cr_steps.proofs.Done.{shared_is, went_not}
use Rattle.cr_steps.proofs.Held.{captured_can_as, captured_neat}
use Rattle.cr_steps.proofs.acting.act.Goals as goal

pub act_at-requires-clause-can : goal.act_at-requires-clause-can
act_at-requires-clause-can c =
    captured_can_as c.args.rows.now c.args.fibers.now.items c.set_captured.new.fibers.items c.args.at c.in-SetsShared.variable c.in-SetsShared.value c.in-SetsShared.shown c.args.step
    c.in-SetsShared.is c.set_captured.ensures c.requires.can

pub act_at-requires-clause-neat : goal.act_at-requires-clause-neat
act_at-requires-clause-neat c = captured_neat c.args.rows.now c.args.fibers.now.items c.set_captured.new.fibers.items c.in-SetsShared.variable c.in-SetsShared.value c.set_captured.ensures c.requires.neat

pub returns-in-SetsShared-clause-step : goal.returns-in-SetsShared-clause-step
returns-in-SetsShared-clause-step c = λ P s f same fibers at.
    shared_is P c.args.rows.now s c.args.fibers.now.items c.set_captured.new.fibers.items c.act_at.new.fibers.items c.args.at f c.in-SetsShared.variable c.in-SetsShared.value c.in-SetsShared.shown c.args.step c.act_at.result
    c.in-SetsShared.is same fibers at c.set_captured.ensures (λ r h is stands. c.act_at.ensures.step P r h same is stands)

pub returns-in-SetsShared-clause-same : goal.returns-in-SetsShared-clause-same
returns-in-SetsShared-clause-same c = λ clear. absurd (went_not c.act_at.result (c.act_at.ensures.gives refl) clear)
