use Rattle.std.proofs.Common.{◌≡◌, Some}
use Rattle.std.specs.Prelude.{slice_get}
use Rattle.cr_steps.specs.Step.{alone}
use Rattle.cr_steps.proofs.Acted.{get_is, same_there}
use Rattle.cr_steps.proofs.Done.{there_is}
use Rattle.cr_steps.proofs.Held.{can_read, can_opened, can_fit, set_neat}
use Rattle.cr_steps.proofs.acting.act_at.Goals as goal

-- `read` is that the fiber which was read stands at its place
pub act_alone-requires : goal.act_alone-requires
act_alone-requires c =
    let items = c.args.fibers.now.items in
    let x = c.index_mut-fiber.result.now in
    let read : slice_get items c.args.at ≡ Some x = can_read c.args.rows.now items c.args.at c.args.step x c.requires.can c.index_mut-fiber.ensures.value in
    record { opened = can_opened c.args.rows.now items c.args.at c.args.step x c.requires.can read; fits = can_fit c.args.rows.now items c.args.at c.args.step x c.requires.can read }

pub returns-clause-step : goal.returns-clause-step
returns-clause-step c = λ P s f same fibers at.
    let items = c.args.fibers.now.items in
    let x = c.index_mut-fiber.result.now in
    let read : slice_get items c.args.at ≡ Some x = can_read c.args.rows.now items c.args.at c.args.step x c.requires.can c.index_mut-fiber.ensures.value in
    there_is P s items c.args.at f x c.act_alone.new.fiber (alone c.args.step) c.act_alone.result fibers at read (c.act_alone.ensures.step P s c.args.at same (get_is P s items c.args.at x fibers read))

pub returns-clause-same : goal.returns-clause-same
returns-clause-same c = λ clear P same.
    let items = c.args.fibers.now.items in
    let x = c.index_mut-fiber.result.now in
    let read : slice_get items c.args.at ≡ Some x = can_read c.args.rows.now items c.args.at c.args.step x c.requires.can c.index_mut-fiber.ensures.value in
    same_there P items c.args.at x c.act_alone.new.fiber read (c.act_alone.ensures.same clear P same)

pub returns-clause-neat : goal.returns-clause-neat
returns-clause-neat c = set_neat c.args.rows.now c.args.fibers.now.items c.args.at c.act_alone.new.fiber c.act_alone.ensures.neat c.requires.neat
