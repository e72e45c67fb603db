use Rattle.std.proofs.Common.{refl}
use Rattle.std.specs.Fmt.{digits}
use Rattle.cr_builtins.specs.Scalars.{scalar}
use Rattle.cr_builtins.specs.Numbers.{on_integer, reckon}
use Rattle.cr_meaning.specs.Term.{tree}
use Rattle.cr_meaning.specs.Reduce.{reduce}
use Rattle.cr_meaning.specs.Run.{run, start, after}
use Rattle.cr_meaning.proofs.examples.fibers_are_counted.Goals as goal

pub returns : goal.returns
unfolding run start after reduce tree digits scalar on_integer reckon
returns c = record {
  sent = refl;
  received = refl;
  received_or_nil = refl;
  closed = refl;
  taken_as_local = refl;
  taken = refl;
  send_clause = refl;
  otherwise = refl;
  spawned = refl;
  block_ended = refl;
  spawned_in = refl;
  isolated = refl;
  waited = refl;
  waits = refl;
}
