use Rattle.cr_lex.specs.Step.{form_with_kind}
use Rattle.cr_lex.specs.Step.{before_of}
use Rattle.cr_lex.proofs.Stepping.{operator_stands}
use Rattle.cr_lex.proofs.lexer.operator_at.Goals as goal

pub returns : goal.returns
returns c = operator_stands c.args.source.now (before_of c.args.seen.now) c.args.at c.args.place c.args.spaced (form_with_kind c.operator_token.result)
    c.requires.value c.requires.gap c.requires.within c.requires.operator c.operator_token.ensures
