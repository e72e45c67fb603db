use Rattle.std.proofs.Common.{refl}
use Rattle.cr_lex.proofs.Dispatch.{digit_longest, digit_none}
use Rattle.cr_lex.proofs.lexer.digit_token.Goals as goal

pub returns-in-Some : goal.returns-in-Some
returns-in-Some c = digit_longest c.args.rest.now c.in-Some.len c.in-Some.kind c.requires c.in-Some.ensures.some c.in-Some.ensures.found

pub returns-in-None : goal.returns-in-None
returns-in-None c = λ other. (digit_none c.args.rest.now c.requires c.in-None.ensures.found, refl)
