use Rattle.std.proofs.Common.{◌≡◌, drop}
use Rattle.cr_declarations.specs.Marking.{marked_all}
use Rattle.cr_declarations.proofs.blocks.scopes_with_yield.Given as goal

abbrev pub invariant-loop-row : goal.invariant-loop-row
invariant-loop-row l = marked_all l.outermost.items l.flags.items (drop l.row-index l.rows) ≡ marked_all l.outermost.items l.initial.flags.items l.rows
