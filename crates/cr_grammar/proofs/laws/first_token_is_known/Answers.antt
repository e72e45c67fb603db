use Rattle.cr_grammar.proofs.First as first
use Rattle.cr_grammar.proofs.laws.first_token_is_known.Goals as goal

pub returns-clause-values : goal.returns-clause-values
returns-clause-values c = first.values_begin

pub returns-clause-statements : goal.returns-clause-statements
returns-clause-statements c = first.statements_begin

pub returns-clause-types : goal.returns-clause-types
returns-clause-types c = first.types_begin
