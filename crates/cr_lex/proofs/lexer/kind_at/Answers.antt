use Rattle.cr_lex.specs.Step.{before_of}
use Rattle.cr_lex.proofs.Stepping.{utf8_behind, stands_by}
use Rattle.cr_lex.proofs.lexer.kind_at.Goals as goal

pub form-requires-clause-utf8 : goal.form-requires-clause-utf8
form-requires-clause-utf8 c = λ ascii. utf8_behind c.args.source.now c.args.place c.requires.utf8 c.requires.within ascii

pub returns : goal.returns
returns c = stands_by c.args.source.now (before_of c.args.seen.now) c.args.at c.args.place c.args.spaced c.form.result
    c.requires.value c.requires.gap c.requires.within c.form.ensures
