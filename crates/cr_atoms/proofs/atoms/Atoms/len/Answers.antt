use Rattle.std.proofs.Common.{List, subst}
use Rattle.cr_atoms.specs.Table.{IsLawful}
use Rattle.cr_atoms.specs.declared.atom.Atom.{Atom}
use Rattle.cr_atoms.specs.contracts.atom.AtomEq.TheImpl.Laws.{laws-law}
use Rattle.cr_atoms.proofs.Found.{apart}
use Rattle.cr_atoms.proofs.Tables.{lawful}
use Rattle.cr_atoms.proofs.atoms.Atoms.len.Goals as goal

pub returns-clause-lawful : goal.returns-clause-lawful
returns-clause-lawful c =
    subst (λ (atoms : List Atom). IsLawful atoms) c.self.view_is
    (lawful c.self.inside.depths.entries (apart laws-law _ c.len.ensures.unique) c.self.invariant)
