use Rattle.cr_atoms.proofs.Merge.{ascending_joined}
use Rattle.cr_atoms.proofs.Members.{from_joined, joined_members, joined_first, joined_second, joined_least}
use Rattle.cr_atoms.proofs.laws.join_law.Goals as goal

pub returns-clause-ascending : goal.returns-clause-ascending
returns-clause-ascending c = ascending_joined

pub returns-clause-members : goal.returns-clause-members
returns-clause-members c = λ a b atom. (from_joined a b atom, joined_members a b atom)

pub returns-clause-holds_first : goal.returns-clause-holds_first
returns-clause-holds_first c = joined_first

pub returns-clause-holds_second : goal.returns-clause-holds_second
returns-clause-holds_second c = joined_second

pub returns-clause-least : goal.returns-clause-least
returns-clause-least c = joined_least
