use Rattle.std.proofs.Common.{◌≡◌, map, length}
use Rattle.std.specs.Map.{lookup as looked_up}
use Rattle.std.specs.Str.{bytes_eq}
use Rattle.cr_lex.proofs.keywords.lookup.Given as goal

abbrev pub invariant-loop-table : goal.invariant-loop-table
invariant-loop-table l = looked_up (bytes_eq l.text) (map (λ k. (k.0.now, k.1)) l.table) ≡ looked_up (bytes_eq l.text) (map (λ k. (k.0.now, k.1)) l.initial.table)

abbrev pub decreases-loop-table : goal.decreases-loop-table
decreases-loop-table l = length l.table
