use Rattle.cr_atoms.proofs.Tables.{kept_within}
use Rattle.cr_atoms.proofs.atoms.Atoms.entry.Goals as goal

pub returns-clause-within : goal.returns-clause-within
returns-clause-within c = kept_within c.self.inside.depths.entries c.args.atom.0 c.in-Some.entry.0.now c.in-Some.entry.1.now c.self.invariant c.in-Some.ensures.entry
