use Rattle.std.proofs.Common.{◌≡◌, ◌+◌, drop}
use Rattle.cr_lex.specs.Texts.{plain_length}
use Rattle.cr_lex.proofs.texts.plain_len.Given as goal

abbrev pub invariant-loop-i : goal.invariant-loop-i
invariant-loop-i l = l.i + plain_length (drop l.i l.bytes) ≡ plain_length l.bytes
