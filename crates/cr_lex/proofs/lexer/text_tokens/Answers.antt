use Rattle.std.proofs.Common.{[], ◌++◌}
use Rattle.cr_lex.proofs.lexer.text_tokens.Goals as goal

pub returns-in-Err-clause-err : goal.returns-in-Err-clause-err
returns-in-Err-clause-err c = λ apart. (c.source.tokens.items ++ [], c.source.invariant.fails [] c.in-Err.fault (c.in-Err.ensures apart))
