use Rattle.cr_grammar.proofs.Spelled as spelled
use Rattle.cr_grammar.proofs.examples.braces_behind_a_name_are_a_block.Goals as goal

pub returns-clause-hash : goal.returns-clause-hash
returns-clause-hash c = spelled.hash_literal

pub returns-clause-block : goal.returns-clause-block
returns-clause-block c = spelled.block_behind_name
