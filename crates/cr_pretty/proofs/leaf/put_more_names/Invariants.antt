use Rattle.std.proofs.Common.{◌≡◌, ◌++◌, drop}
use Rattle.cr_pieces.specs.Pieces.{text_of}
use Rattle.cr_pretty.specs.Layout.{more_joined}
use Rattle.cr_pretty.specs.Parts.{between, constants}
use Rattle.cr_pretty.proofs.leaf.put_more_names.Given as goal

abbrev pub invariant-loop-name : goal.invariant-loop-name
invariant-loop-name l = l.out.items ++ text_of (more_joined (between l.manner) (constants (drop l.name-index l.names))) ≡ l.initial.out.items ++ text_of (more_joined (between l.manner) (constants l.names))
