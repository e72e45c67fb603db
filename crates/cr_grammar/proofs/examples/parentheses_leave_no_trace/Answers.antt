use Rattle.cr_grammar.proofs.Spelled as spelled
use Rattle.cr_grammar.proofs.examples.parentheses_leave_no_trace.Goals as goal

pub returns-clause-value : goal.returns-clause-value
returns-clause-value c = spelled.parentheses_leave_no_trace

pub returns-clause-arguments : goal.returns-clause-arguments
returns-clause-arguments c = spelled.empty_arguments_leave_no_trace
