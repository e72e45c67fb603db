use Rattle.std.proofs.Common.{ap}
use Rattle.cr_syntax.specs.declared.token.TokenKind.TheVariants as k
use Rattle.cr_syntax.specs.Words.{begins_constant}
use Rattle.cr_lex.specs.Words.{word_length, constant_form}
use Rattle.cr_lex.proofs.WordBytes.{longest_constant, utf8_constant}
use Rattle.cr_lex.proofs.Slices.{utf8_at, longest_at}
use Rattle.cr_lex.proofs.words.constant.Goals as goal

pub copied-requires : goal.copied-requires
copied-requires c = utf8_at word_length begins_constant utf8_constant c.args.bytes.now c.word_len-len.result c.requires.some c.requires.begins c.word_len-len.ensures.value

pub returns : goal.returns
returns c = longest_at word_length constant_form k.Constant longest_constant c.args.bytes.now c.word_len-len.result (k.Constant c.in_ok-text.text) c.requires.some c.word_len-len.ensures.value
    (ap k.Constant c.in_ok-text.ensures)
