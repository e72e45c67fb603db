use Rattle.std.proofs.Common.{◌≡◌, ◌+◌, drop}
use Rattle.cr_lex.specs.Words.{word_length}
use Rattle.cr_lex.proofs.bytes.word_len.Given as goal

abbrev pub invariant-loop-i : goal.invariant-loop-i
invariant-loop-i l = l.i + word_length (drop l.i l.bytes) ≡ word_length l.bytes
