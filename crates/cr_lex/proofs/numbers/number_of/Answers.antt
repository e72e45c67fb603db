use Rattle.std.proofs.Common.{◌≡◌, ℕ, ◌+◌, List, drop, get_or, ap, subst, ◌∙◌}
use Rattle.std.proofs.lemmas.List.{take_rest}
use Rattle.cr_syntax.specs.Numbers.{typed}
use Rattle.cr_lex.specs.Numbers.{capped_digits}
use Rattle.cr_lex.proofs.Values.{number_of_text}
use Rattle.cr_lex.proofs.numbers.number_of.Goals as goal

pub returns : goal.returns
returns c = c.typed.ensures ∙ ap (typed c.args.minus c.digits-value.result.0) (take_rest c.args.text.now (1 + c.digits-value.result.1))
    ∙ number_of_text c.args.minus c.args.text.now c.digits-value.result.0 c.digits-value.result.1 c.requires
    (subst (λ (xs : List ℕ). (c.digits-value.result.0, drop c.digits-value.result.1 xs) ≡ capped_digits (get_or c.args.text.now 0 0) xs) (take_rest c.args.text.now 1) c.digits-value.ensures.value)
