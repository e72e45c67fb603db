use Rattle.std.proofs.Common.{ℕ, ◌+◌, List, sym, ap, ◌∙◌}
use Rattle.cr_lex.specs.Texts.{Found, ending_length}
use Rattle.cr_lex.proofs.PlainText.{whole, whole_found}
use Rattle.cr_lex.proofs.texts.body_at.Goals as goal

pub returns-clause-scanned : goal.returns-clause-scanned
returns-clause-scanned c =
    let n = c.plain_len-len.result in
    let opens = c.in-Some.opens in
    whole_found c.args.bytes.now n opens c.plain_len-len.ensures.value c.in-Some.ensures
    ∙ ap (λ (text : List ℕ). Found (whole text opens) (n + ending_length opens)) (sym c.in_ok-content.ensures.items)
    ∙ ap (λ (k : ℕ). Found (whole c.in_ok-content.content.items opens) (n + k)) (sym c.ending_len.ensures)
