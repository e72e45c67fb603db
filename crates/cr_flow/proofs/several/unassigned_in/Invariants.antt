use Rattle.std.proofs.Common.{◌≡◌, length}
use Rattle.cr_flow.specs.Several.{AreTold}
use Rattle.cr_flow.proofs.several.unassigned_in.Given as goal

abbrev pub invariant-loop-variable : goal.invariant-loop-variable
invariant-loop-variable l = record { many : length l.found.items ≡ l.variable-index; told : AreTold l.tree l.scope l.ranks l.variables l.found.items }
