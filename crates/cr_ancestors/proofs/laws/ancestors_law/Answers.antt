use Rattle.cr_ancestors.proofs.Lookup as laws
use Rattle.cr_ancestors.proofs.laws.ancestors_law.Goals as goal

pub returns-clause-first : goal.returns-clause-first
returns-clause-first c = laws.first

pub returns-clause-once : goal.returns-clause-once
returns-clause-once c = laws.once

pub returns-clause-one : goal.returns-clause-one
returns-clause-one c = laws.only
