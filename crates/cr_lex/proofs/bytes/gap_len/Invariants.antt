use Rattle.std.proofs.Common.{◌≡◌, ◌+◌, drop}
use Rattle.cr_syntax.specs.Lexes.{gap_length}
use Rattle.cr_lex.proofs.bytes.gap_len.Given as goal

abbrev pub invariant-loop-i : goal.invariant-loop-i
invariant-loop-i l = l.i + gap_length (drop l.i l.bytes) ≡ gap_length l.bytes
