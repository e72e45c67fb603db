use Rattle.std.proofs.Common.{ℕ, List, sym, ap, ◌∙◌, subst}
use Rattle.std.specs.Str.{IsUtf8}
use Rattle.cr_syntax.specs.declared.token.TokenKind.{TokenKind}
use Rattle.cr_syntax.specs.Texts.{part_kind}
use Rattle.cr_lex.specs.Longest.{IsLongest}
use Rattle.cr_lex.specs.Parts.{part_in}
use Rattle.cr_lex.specs.Texts.{part_form}
use Rattle.cr_lex.proofs.PartsRead.{longest_part, no_part}
use Rattle.cr_lex.proofs.PartText.{part_text}
use Rattle.cr_lex.proofs.texts.part.Goals as goal

pub of_bytes-requires : goal.of_bytes-requires
of_bytes-requires c = subst IsUtf8 (sym c.as_slice.ensures.value) (part_text c.args.bytes.now (part_in c.in-Ok.field-0) c.in-Ok.field-0.len c.requires c.in-Ok.ensures.scanned)

pub returns-in_ok-text-in-Ok : goal.returns-in_ok-text-in-Ok
returns-in_ok-text-in-Ok c = subst (λ (kind : TokenKind). IsLongest (part_form c.args.quoted) c.args.bytes.now c.in-Ok.field-0.len kind)
    (sym (c.part_kind.ensures ∙ ap (λ (text : List ℕ). part_kind c.args.quoted (record { bytes = text; opens = c.in-Ok.field-0.opens })) (c.in_ok-text-in-Ok.ensures ∙ c.as_slice.ensures.value)))
    (longest_part c.args.quoted c.args.bytes.now (part_in c.in-Ok.field-0) c.in-Ok.field-0.len c.in-Ok.ensures.scanned)

pub returns-in-Err : goal.returns-in-Err
returns-in-Err c = no_part c.args.quoted c.args.bytes.now c.in-Err.fault c.in-Err.ensures.scanned c.in-Err.ensures.within
