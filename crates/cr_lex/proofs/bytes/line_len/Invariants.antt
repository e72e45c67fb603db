use Rattle.std.proofs.Common.{◌≡◌, ◌+◌, drop}
use Rattle.cr_syntax.specs.Lexes.{line_length}
use Rattle.cr_lex.proofs.bytes.line_len.Given as goal

abbrev pub invariant-loop-i : goal.invariant-loop-i
invariant-loop-i l = l.i + line_length (drop l.i l.bytes) ≡ line_length l.bytes
