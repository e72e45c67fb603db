use Rattle.std.proofs.Common.{ap, ◌∙◌}
use Rattle.std.specs.Prelude.{unwrap_or}
use Rattle.cr_syntax.specs.declared.fault.LexFault.TheVariants as lex
use Rattle.cr_syntax.specs.Lexes.{outermost}
use Rattle.cr_lex.specs.declared.texts.PartFault.TheVariants as fault
use Rattle.cr_lex.specs.Parts.{HasNoPart}
use Rattle.cr_lex.specs.Step.{before_of}
use Rattle.cr_lex.proofs.Dispatch.{bad_fault, open_fault}
use Rattle.cr_lex.proofs.PartsRead.{escape_met, end_met}
use Rattle.cr_lex.proofs.lexer.part_token.Goals as goal

pub returns-in-Err-Escape : goal.returns-in-Err-Escape
returns-in-Err-Escape c =
    let h : HasNoPart c.args.quoted c.args.more.now (fault.Escape c.in-Err-Escape.len) = escape_met c.args.quoted c.args.more.now c.in-Err-Escape.field-0 c.in-Err-Escape.len c.in-Err-Escape.field-0-is c.in-Err-Escape.ensures in
    λ other. (h.0, bad_fault (unwrap_or (outermost (before_of c.args.seen.now).nesting) c.args.place) c.args.place c.args.more.now c.in-Err-Escape.len h.1)

pub returns-in-Err-Unended : goal.returns-in-Err-Unended
returns-in-Err-Unended c =
    let h : HasNoPart c.args.quoted c.args.more.now fault.Unended = end_met c.args.quoted c.args.more.now c.in-Err-Unended.field-0 c.in-Err-Unended.field-0-is c.in-Err-Unended.ensures in
    λ other. (h.0, ap lex.OpenString c.outer_quote.ensures ∙ open_fault (unwrap_or (outermost (before_of c.args.seen.now).nesting) c.args.place) c.args.place c.args.more.now h.1)
