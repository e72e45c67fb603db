use Rattle.std.proofs.Common.{sym, ap, ◌∙◌}
use Rattle.cr_pretty.specs.Parts.{part_pieces}
use Rattle.cr_pretty.proofs.Written.{some_arguments, some_listed, some_parameters, some_constants}
use Rattle.cr_pretty.proofs.steps.steps_of.Goals as goal

pub returns-else-is_empty : goal.returns-else-is_empty
returns-else-is_empty c level = some_arguments level c.in-Arguments.list.now (λ none. cc (c.if-is_empty.ensures.1 none)) ∙ ap (part_pieces level) (sym c.in-Arguments.is)

pub returns-else-is_empty-2 : goal.returns-else-is_empty-2
returns-else-is_empty-2 c level = some_listed level c.in-Parenthesized.list.now (λ none. cc (c.if-is_empty-2.ensures.1 none)) ∙ ap (part_pieces level) (sym c.in-Parenthesized.is)

pub returns-else-is_empty-3 : goal.returns-else-is_empty-3
returns-else-is_empty-3 c level = some_parameters level c.in-BlockParameters.list.now (λ none. cc (c.if-is_empty-3.ensures.1 none)) ∙ ap (part_pieces level) (sym c.in-BlockParameters.is)

pub returns-else-is_empty-4 : goal.returns-else-is_empty-4
returns-else-is_empty-4 c level = some_constants c.in-Constants.names.now (λ none. cc (c.if-is_empty-4.ensures.1 none)) ∙ ap (part_pieces level) (sym c.in-Constants.is)
