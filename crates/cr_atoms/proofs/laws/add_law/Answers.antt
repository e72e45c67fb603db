use Rattle.cr_atoms.proofs.Sets.{ascending_with}
use Rattle.cr_atoms.proofs.Members.{from_with, with_members}
use Rattle.cr_atoms.proofs.laws.add_law.Goals as goal

pub returns-clause-ascending : goal.returns-clause-ascending
returns-clause-ascending c = ascending_with

pub returns-clause-members : goal.returns-clause-members
returns-clause-members c = λ set atom other. (from_with set atom other, with_members set atom other)
