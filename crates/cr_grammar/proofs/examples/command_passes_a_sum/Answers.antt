use Rattle.cr_grammar.proofs.Spelled as spelled
use Rattle.cr_grammar.proofs.examples.command_passes_a_sum.Goals as goal

pub returns-clause-tree : goal.returns-clause-tree
returns-clause-tree c = spelled.puts_sum

pub returns-clause-counts : goal.returns-clause-counts
returns-clause-counts c = spelled.puts_sum_counts
