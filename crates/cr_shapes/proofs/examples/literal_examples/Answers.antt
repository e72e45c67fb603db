use Rattle.std.proofs.Common.{arith, refl}
use Rattle.cr_core.specs.Arena.{node_id}
use Rattle.cr_shapes.specs.Offences as o
use Rattle.cr_shapes.proofs.Decided.{no_need}
use Rattle.cr_shapes.proofs.examples.literal_examples.Goals as goal

pub returns-clause-no_entry : goal.returns-clause-no_entry
returns-clause-no_entry c = o.no_entry _ (record { stands = refl; form = refl }) refl

pub returns-clause-of_call : goal.returns-clause-of_call
returns-clause-of_call c = o.not_obvious _ (node_id 4) (record { stands = refl; form = refl }) (1, omega arith, refl) refl

pub returns-clause-of_array : goal.returns-clause-of_array
returns-clause-of_array c = o.not_obvious _ (node_id 1) (record { stands = refl; form = refl }) (0, omega arith, refl) refl

pub returns-clause-array : goal.returns-clause-array
returns-clause-array c = no_need _ (node_id 0) _ refl refl

pub returns-clause-hash : goal.returns-clause-hash
returns-clause-hash c = no_need _ (node_id 0) _ refl refl
