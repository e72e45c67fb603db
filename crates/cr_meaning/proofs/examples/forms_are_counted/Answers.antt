use Rattle.std.proofs.Common.{refl}
use Rattle.std.specs.Fmt.{digits}
use Rattle.cr_builtins.specs.Scalars.{scalar}
use Rattle.cr_builtins.specs.Numbers.{on_integer, reckon}
use Rattle.cr_meaning.specs.Term.{tree}
use Rattle.cr_meaning.specs.Reduce.{reduce}
use Rattle.cr_meaning.specs.Run.{run, start, after}
use Rattle.cr_meaning.proofs.examples.forms_are_counted.Goals as goal

pub returns : goal.returns
unfolding run start after reduce tree digits scalar on_integer reckon
returns c = record {
  value = refl;
  assignment = refl;
  condition = refl;
  both = refl;
  either = refl;
  negation = refl;
  no_turn = refl;
  broken = refl;
  one_turn = refl;
  next_turn = refl;
  endless = refl;
  endless_goes = refl;
  class_test = refl;
  printed = refl;
  paused = refl;
  raised = refl;
  array = refl;
  hash = refl;
}
