use Rattle.std.proofs.Common.{refl}
use Rattle.std.specs.Fmt.{digits}
use Rattle.cr_builtins.specs.Scalars.{scalar}
use Rattle.cr_builtins.specs.Numbers.{on_integer, reckon}
use Rattle.cr_schedule.specs.declared.entry.Entry.TheVariants.{Wait}
use Rattle.cr_meaning.specs.Term.{tree}
use Rattle.cr_meaning.specs.Reduce.{reduce}
use Rattle.cr_meaning.specs.Run.{run, start, after}
use Rattle.cr_meaning.specs.Examples.{fiber}
use Rattle.cr_meaning.proofs.examples.choices_meet.Goals as goal

pub returns : goal.returns
unfolding run start after reduce tree digits scalar on_integer reckon
returns c = record {
  met = refl;
  otherwise = record { there = refl; legal_before = refl; illegal_with = refl };
  early = (Wait (fiber 1), refl);
}
