use Rattle.std.proofs.Common.{◌≡◌, drop}
use Rattle.cr_syntax.specs.Lexes.{outermost}
use Rattle.cr_lex.proofs.lexer.outermost.Given as goal

abbrev pub invariant-loop-open : goal.invariant-loop-open
invariant-loop-open l = outermost (drop l.open-index l.nesting) ≡ outermost l.nesting
