use Rattle.cr_steps.specs.Control.{AreNeat}
use Rattle.cr_run_tests.proofs.tests.run.Given as goal

abbrev pub invariant-loop : goal.invariant-loop
invariant-loop l = AreNeat l.fn.tree.rows l.fibers.items
