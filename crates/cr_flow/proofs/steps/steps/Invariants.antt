use Rattle.std.proofs.Common.{◌-◌, length}
use Rattle.std.specs.Prelude.{All}
use Rattle.cr_flow.specs.Steps.{IsStep}
use Rattle.cr_flow.proofs.steps.steps.Given as goal

abbrev pub invariant-statements : goal.invariant-statements
invariant-statements l = record { all : All (IsStep l.rows l.ranks l.z l.fn.body) l.steps.items; last : IsStep l.rows l.ranks l.z l.fn.body l.step }

abbrev pub decreases-statements : goal.decreases-statements
decreases-statements l = length l.rows - l.step.at.0
