use Rattle.std.proofs.Common.{◌≡◌, false, drop}
use Rattle.cr_lex.specs.Texts.{behind_bytes, scan}
use Rattle.cr_lex.proofs.texts.read_body.Given as goal

abbrev pub invariant-loop-i : goal.invariant-loop-i
invariant-loop-i l = behind_bytes l.i l.content.items (scan l.escaped (drop l.i l.bytes)) ≡ scan false l.bytes
