use Rattle.std.proofs.Common.{◌≡◌, ◌+◌, drop}
use Rattle.cr_lex.specs.Words.{marked_length}
use Rattle.cr_lex.proofs.bytes.marked_len.Given as goal

abbrev pub invariant-loop-i : goal.invariant-loop-i
invariant-loop-i l = l.i + marked_length (drop l.i l.bytes) ≡ marked_length l.bytes
