use Rattle.std.proofs.Common.{◌≡◌, drop}
use Rattle.cr_names.specs.Tables.{noted_from}
use Rattle.cr_names.proofs.firsts.first_places.Given as goal

abbrev pub invariant-loop-place : goal.invariant-loop-place
invariant-loop-place l = noted_from l.table.items l.place (drop l.place l.keys) ≡ noted_from l.initial.table.items 0 l.keys
