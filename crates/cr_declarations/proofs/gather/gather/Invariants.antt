use Rattle.std.proofs.Common.{◌≡◌, ◌++◌, drop}
use Rattle.cr_declarations.specs.Declaring.{declarations, declarations_from}
use Rattle.cr_declarations.proofs.gather.gather.Given as goal

abbrev pub invariant-loop-number : goal.invariant-loop-number
invariant-loop-number l = l.list.items ++ declarations_from l.rows l.number (drop l.number l.rows) ≡ declarations l.rows
