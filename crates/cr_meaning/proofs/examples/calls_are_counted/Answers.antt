use Rattle.std.proofs.Common.{refl}
use Rattle.std.specs.Fmt.{digits}
use Rattle.cr_builtins.specs.Scalars.{scalar}
use Rattle.cr_builtins.specs.Numbers.{on_integer, reckon}
use Rattle.cr_meaning.specs.Term.{tree}
use Rattle.cr_meaning.specs.Reduce.{reduce}
use Rattle.cr_meaning.specs.Run.{run, start, after}
use Rattle.cr_meaning.proofs.examples.calls_are_counted.Goals as goal

pub returns : goal.returns
unfolding run start after reduce tree digits scalar on_integer reckon
returns c = record {
  built_in = refl;
  called = refl;
  returned = refl;
  not_once = refl;
  twice = refl;
  yielded = refl;
  yielded_next = refl;
  method = refl;
  receiver = refl;
  field = refl;
  initialized = refl;
  assigned = refl;
  no_further = refl;
  returned_early = refl;
  super_called = refl;
  no_super = refl;
  until_super = refl;
}
