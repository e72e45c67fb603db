use Rattle.std.proofs.Common.{◌≡◌, ◌++◌, map, drop}
use Rattle.cr_lowering.specs.Blank.{blank}
use Rattle.cr_lowering.proofs.blank.blank_scopes.Given as goal

abbrev pub invariant-loop-names : goal.invariant-loop-names
invariant-loop-names l = l.made.items ++ map blank (drop l.names-index l.scopes) ≡ map blank l.scopes
