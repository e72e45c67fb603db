use Rattle.std.proofs.Common.{ℕ, drop, take, sym, ◌∙◌, ap, subst}
use Rattle.std.proofs.lemmas.List.{take_rest}
use Rattle.cr_syntax.specs.Numbers.{number_of, ends_number}
use Rattle.cr_lex.specs.Longest.{IsLongest}
use Rattle.cr_lex.specs.Numbers.{number_form}
use Rattle.cr_lex.proofs.Values.{longest_number, unended_number, no_number}
use Rattle.cr_lex.proofs.numbers.number.Goals as goal

pub returns-then-not-ends_number-clause-found : goal.returns-then-not-ends_number-clause-found
returns-then-not-ends_number-clause-found c = unended_number c.args.minus c.args.bytes.now c.requires
    (sym (c.if-not-ends_number.ensures ∙ ap ends_number (take_rest c.args.bytes.now c.word_len-len.result) ∙ ap (λ (i : ℕ). ends_number (drop i c.args.bytes.now)) c.word_len-len.ensures.value))

pub returns-in-Some-clause-found : goal.returns-in-Some-clause-found
returns-in-Some-clause-found c = subst (λ (n : ℕ). IsLongest (number_form c.args.minus) c.args.bytes.now n c.in-Some.kind) (sym c.word_len-len.ensures.value)
    (longest_number c.args.minus c.args.bytes.now c.in-Some.kind c.requires
    (sym (c.if-not-ends_number.ensures ∙ ap ends_number (take_rest c.args.bytes.now c.word_len-len.result) ∙ ap (λ (i : ℕ). ends_number (drop i c.args.bytes.now)) c.word_len-len.ensures.value))
    (c.in-Some.ensures ∙ ap (λ (i : ℕ). number_of c.args.minus (take i c.args.bytes.now)) c.word_len-len.ensures.value))

pub returns-in-None-clause-found : goal.returns-in-None-clause-found
returns-in-None-clause-found c = no_number c.args.minus c.args.bytes.now c.requires
    (c.in-None.ensures ∙ ap (λ (i : ℕ). number_of c.args.minus (take i c.args.bytes.now)) c.word_len-len.ensures.value)
