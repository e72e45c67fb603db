use Rattle.std.proofs.Common.{sym}
use Rattle.cr_lex.specs.Step.{before_of}
use Rattle.cr_lex.proofs.Dispatch.{by_digit, by_word, by_constant}
use Rattle.cr_lex.proofs.lexer.form.Goals as goal

pub returns-then-is_digit : goal.returns-then-is_digit
returns-then-is_digit c = by_digit (before_of c.args.seen.now) c.args.spaced c.args.place c.args.rest.now c.digit_token.result c.requires.some (sym c.if-is_digit.ensures) c.digit_token.ensures

pub returns-then-begins_name : goal.returns-then-begins_name
returns-then-begins_name c = by_word (before_of c.args.seen.now) c.args.spaced c.args.place c.args.rest.now c.word_token.result c.requires.some (sym c.if-is_digit.ensures) (sym c.if-begins_name.ensures) c.word_token.ensures

pub returns-then-begins_constant : goal.returns-then-begins_constant
returns-then-begins_constant c = by_constant (before_of c.args.seen.now) c.args.spaced c.args.place c.args.rest.now c.constant_token.result c.requires.some (sym c.if-is_digit.ensures) (sym c.if-begins_name.ensures) (sym c.if-begins_constant.ensures) c.constant_token.ensures
