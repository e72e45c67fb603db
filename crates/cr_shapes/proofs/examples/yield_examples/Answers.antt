use Rattle.std.proofs.Common.{refl}
use Rattle.cr_core.specs.Arena.{node_id}
use Rattle.cr_shapes.specs.Offences as o
use Rattle.cr_shapes.specs.Spawned as s
use Rattle.cr_shapes.proofs.Decided.{not_spawned}
use Rattle.cr_shapes.proofs.Unspawned.{at_top, further_out, no_block, no_fiber}
use Rattle.cr_shapes.proofs.examples.yield_examples.Goals as goal

pub returns-clause-method : goal.returns-clause-method
returns-clause-method c = not_spawned _ (node_id 2) _ refl (further_out _ 2 1 _ refl refl (no_block _ 1 _ refl refl) (further_out _ 1 0 _ refl refl (no_block _ 0 _ refl refl) (at_top _ 0 _ refl refl)))

pub returns-clause-block : goal.returns-clause-block
returns-clause-block c =
    not_spawned _ (node_id 4) _ refl
    (further_out _ 4 3 _ refl refl (no_fiber _ 3 _ refl refl)
    (further_out _ 3 2 _ refl refl (no_block _ 2 _ refl refl)
    (further_out _ 2 1 _ refl refl (no_block _ 1 _ refl refl) (further_out _ 1 0 _ refl refl (no_block _ 0 _ refl refl) (at_top _ 0 _ refl refl)))))

pub returns-clause-spawn : goal.returns-clause-spawn
returns-clause-spawn c =
    o.spawned _ refl refl (record { block = 3; is = record { row = _; scope = _; stands = refl; form = refl; begins = refl }; around = s.parent 4 _ refl refl })

pub returns-clause-deeper : goal.returns-clause-deeper
returns-clause-deeper c =
    o.spawned _ refl refl (record {
      block = 3;
      is = record { row = _; scope = _; stands = refl; form = refl; begins = refl };
      around = s.further 6 _ (node_id 5) refl refl (s.further 5 _ (node_id 4) refl refl (s.parent 4 _ refl refl));
    })
