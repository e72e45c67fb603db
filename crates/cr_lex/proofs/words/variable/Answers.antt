use Rattle.std.proofs.Common.{ℕ, List, take, sym, ap, subst, ◌∙◌}
use Rattle.std.specs.Str.{IsUtf8}
use Rattle.cr_syntax.specs.declared.token.TokenKind.TheVariants as k
use Rattle.cr_lex.specs.Longest.{IsLongest}
use Rattle.cr_lex.specs.Words.{word_length, variable_form}
use Rattle.cr_lex.proofs.WordBytes.{utf8_words, longest_variable}
use Rattle.cr_lex.proofs.Slices.{begins_first}
use Rattle.cr_lex.proofs.words.variable.Goals as goal

pub copied-requires : goal.copied-requires
copied-requires c = subst (λ (n : ℕ). IsUtf8 (take n c.args.bytes.now)) (sym c.word_len-len.ensures.value) (utf8_words c.args.bytes.now)

pub returns : goal.returns
returns c = subst (λ (n : ℕ). IsLongest variable_form c.args.bytes.now n (k.InstanceVariable c.in_ok-text.text)) (sym c.word_len-len.ensures.value)
    (subst (λ (text : List ℕ). IsLongest variable_form c.args.bytes.now (word_length c.args.bytes.now) (k.InstanceVariable text))
    (sym (c.in_ok-text.ensures ∙ ap (λ (n : ℕ). take n c.args.bytes.now) c.word_len-len.ensures.value))
    (longest_variable c.args.bytes.now (begins_first c.args.bytes.now (sym c.if-not-begins_name.ensures))))
