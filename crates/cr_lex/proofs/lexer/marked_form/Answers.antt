use Rattle.std.proofs.Common.{sym}
use Rattle.cr_lex.specs.Step.{before_of}
use Rattle.cr_lex.proofs.Dispatch.{by_minus}
use Rattle.cr_lex.proofs.lexer.marked_form.Goals as goal

pub returns : goal.returns
returns c = by_minus (before_of c.args.seen.now) c.args.spaced c.args.place c.args.rest.now c.minus_token.result c.requires.some c.requires.digit c.requires.name c.requires.constant
    c.if-first-eq64.false c.if-first-eq34.false (sym c.if-ends_insertion.ensures) c.requires.content c.minus_token.ensures
