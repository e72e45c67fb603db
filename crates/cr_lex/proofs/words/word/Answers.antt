use Rattle.cr_syntax.specs.Words.{begins_name, word_of}
use Rattle.cr_lex.specs.Words.{marked_length, word_form}
use Rattle.cr_lex.proofs.Marked.{longest_word, utf8_word}
use Rattle.cr_lex.proofs.Slices.{utf8_at, longest_at}
use Rattle.cr_lex.proofs.words.word.Goals as goal

pub word_of-requires : goal.word_of-requires
word_of-requires c = utf8_at marked_length begins_name utf8_word c.args.bytes.now c.marked_len-len.result c.requires.some c.requires.begins c.marked_len-len.ensures.value

pub returns : goal.returns
returns c = longest_at marked_length word_form word_of longest_word c.args.bytes.now c.marked_len-len.result c.in_ok-kind.kind c.requires.some c.marked_len-len.ensures.value c.in_ok-kind.ensures
