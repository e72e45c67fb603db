use Rattle.cr_tool.proofs.Lines.{next_line_last, next_line_more}
use Rattle.cr_tool.proofs.sums.next_line.Goals as goal

pub returns-in-None : goal.returns-in-None
returns-in-None c =
    next_line_last c.args.source.now _ _ c.find-end.result c.requires c.find-end.ensures c.split_at.ensures.front c.split_at.ensures.back c.in-None.ensures.cases

pub returns-in-Some : goal.returns-in-Some
returns-in-Some c =
    next_line_more c.args.source.now _ _ c.in-Some.rest.now c.in-Some.field-0-0.now c.find-end.result c.find-end.ensures c.split_at.ensures.front c.split_at.ensures.back c.in-Some.ensures.cases.0
