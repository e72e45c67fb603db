use Rattle.std.proofs.Common.{arith}
use Rattle.std.proofs.lemmas.Option.{slice_get_read}
use Rattle.cr_steps.proofs.Done.{captured_there, captured_past}
use Rattle.cr_steps.proofs.acting.set_captured.Goals as goal

pub returns-then-place-len : goal.returns-then-place-len
returns-then-place-len c =
    captured_there c.args.fibers.now.items c.args.variable c.args.value c.index_mut.result.now c.set_variable.new.self
    (slice_get_read c.args.fibers.now.items _ c.args.variable.fiber.0 c.index_mut.result.now c.args.fibers.now.ok.0 (omega (arith, c.len.ensures)) c.index_mut.ensures.value) c.set_variable.ensures

pub returns-else-place-len : goal.returns-else-place-len
returns-else-place-len c = captured_past c.args.fibers.now.items c.args.variable c.args.value (omega (arith, c.len.ensures, c.args.fibers.now.ok.0))
