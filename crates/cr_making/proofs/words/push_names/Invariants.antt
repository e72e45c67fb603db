use Rattle.std.proofs.Common.{◌≡◌, ◌++◌, drop}
use Rattle.std.specs.String.{string_bytes}
use Rattle.cr_making.specs.Words.{path_behind}
use Rattle.cr_making.proofs.words.push_names.Given as goal

abbrev pub invariant-loop-name : goal.invariant-loop-name
invariant-loop-name l = string_bytes l.text ++ path_behind (drop l.name-index l.names) ≡ string_bytes l.initial.text ++ path_behind l.names
