use Rattle.std.proofs.Common.{refl}
use Rattle.std.specs.Fmt.{digits}
use Rattle.cr_builtins.specs.Scalars.{scalar}
use Rattle.cr_builtins.specs.Numbers.{on_integer, reckon}
use Rattle.cr_meaning.specs.Term.{tree}
use Rattle.cr_meaning.specs.Reduce.{reduce}
use Rattle.cr_meaning.specs.Run.{run, start, after}
use Rattle.cr_meaning.specs.Examples.{plain}
use Rattle.cr_meaning.proofs.examples.a_sum_is_printed.Goals as goal

pub returns : goal.returns
unfolding run start after reduce tree digits scalar on_integer reckon
returns c = record {
  whole = refl;
  too_long = record { there = refl; legal_before = refl; illegal_with = refl };
  waits_for_nothing = record { there = refl; legal_before = refl; illegal_with = refl };
  nothing = (plain 0 1, refl);
}
