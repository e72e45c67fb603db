use Rattle.std.proofs.Common.{refl}
use Rattle.cr_core.specs.Arena.{node_id}
use Rattle.cr_shapes.specs.Offences as o
use Rattle.cr_shapes.specs.Written.{is_deeper}
use Rattle.cr_shapes.proofs.Decided.{not_deep}
use Rattle.cr_shapes.proofs.examples.depth_examples.Goals as goal

pub returns-clause-six : goal.returns-clause-six
unfolding is_deeper
returns-clause-six c = not_deep _ (node_id 0) _ refl refl

pub returns-clause-seven : goal.returns-clause-seven
unfolding is_deeper
returns-clause-seven c = o.deep _ _ refl refl refl refl

pub returns-clause-outermost : goal.returns-clause-outermost
unfolding is_deeper
returns-clause-outermost c = not_deep _ (node_id 2) _ refl refl

pub returns-clause-greatest : goal.returns-clause-greatest
unfolding is_deeper
returns-clause-greatest c = o.deep _ _ refl refl refl refl
