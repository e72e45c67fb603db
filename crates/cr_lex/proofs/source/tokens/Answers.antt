use Rattle.std.proofs.Common.{Vec, Global}
use Rattle.cr_syntax.specs.declared.token.Token.{Token}
use Rattle.cr_lex.proofs.Answered.{accepts, refuses}
use Rattle.cr_lex.proofs.source.tokens.Goals as goal

pub returns-clause-accepted : goal.returns-clause-accepted
returns-clause-accepted c = λ ts lexes. accepts (λ (v : Vec Token Global). v.items) c.args.bytes.now ts c.read.result c.at_most_one_list.ensures c.never_tokens_and_fault.ensures lexes c.read.ensures.ok c.read.ensures.err

pub returns-clause-refused : goal.returns-clause-refused
returns-clause-refused c = λ f fails. refuses (λ (v : Vec Token Global). v.items) c.args.bytes.now f c.read.result c.at_most_one_fault.ensures c.never_tokens_and_fault.ensures fails c.read.ensures.ok c.read.ensures.err
