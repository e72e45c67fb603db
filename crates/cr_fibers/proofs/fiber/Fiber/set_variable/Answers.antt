use Rattle.cr_fibers.proofs.Reading.{set_variable_is}
use Rattle.cr_fibers.proofs.fiber.Fiber.set_variable.Goals as goal

pub returns : goal.returns
returns c = set_variable_is _ c.args.self.now _ c.args.number c.args.value c.self.view_is c.write.ensures
