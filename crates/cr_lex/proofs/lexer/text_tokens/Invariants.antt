use Rattle.std.proofs.Common.{◌≤◌, ◌-◌, List, ◌++◌, length}
use Rattle.cr_syntax.specs.declared.fault.LexFault.{LexFault}
use Rattle.cr_syntax.specs.declared.token.Token.{Token}
use Rattle.cr_syntax.specs.Lexes.{start, LexesFrom}
use Rattle.cr_syntax.specs.Faults.{FailsFrom}
use Rattle.cr_lex.specs.Step.{before_of}
use Rattle.cr_lex.proofs.lexer.text_tokens.Given as goal

abbrev pub invariant-source : goal.invariant-source
invariant-source l = record {
  within : l.at ≤ length l.source;
  lexes : (ts : List Token) → LexesFrom l.source (before_of l.seen) l.at ts → LexesFrom l.source start 0 (l.tokens.items ++ ts);
  fails : (ts : List Token) (f : LexFault) → FailsFrom l.source (before_of l.seen) l.at ts f → FailsFrom l.source start 0 (l.tokens.items ++ ts) f;
}

abbrev pub decreases-source : goal.decreases-source
decreases-source l = length l.source - l.at
