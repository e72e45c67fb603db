use Rattle.std.proofs.Common.{◌≡◌, map, length}
use Rattle.cr_pieces.specs.Pieces.{spelled_in}
use Rattle.cr_pieces.proofs.spelling.text_in.Given as goal

abbrev pub invariant-loop-table : goal.invariant-loop-table
invariant-loop-table l = spelled_in (map (λ k. (k.0.now, k.1)) l.table) l.look ≡ spelled_in (map (λ k. (k.0.now, k.1)) l.initial.table) l.look

abbrev pub decreases-loop-table : goal.decreases-loop-table
decreases-loop-table l = length l.table
