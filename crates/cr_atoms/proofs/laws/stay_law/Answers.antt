use Rattle.std.proofs.Common.{ap}
use Rattle.std.specs.Option.{option_map}
use Rattle.cr_atoms.specs.declared.atom.Atom.{Atom}
use Rattle.cr_atoms.proofs.Fronts.{same_at, stays_at, depth_stays, front_further}
use Rattle.cr_atoms.proofs.laws.stay_law.Goals as goal

pub returns-clause-atom : goal.returns-clause-atom
returns-clause-atom c = stays_at

pub returns-clause-class : goal.returns-clause-class
returns-clause-class c = λ old new atom front within. ap (option_map (λ (made : Atom). made.class)) (same_at old new atom.0 front within)

pub returns-clause-args : goal.returns-clause-args
returns-clause-args c = λ old new atom front within. ap (option_map (λ (made : Atom). made.args)) (same_at old new atom.0 front within)

pub returns-clause-depth : goal.returns-clause-depth
returns-clause-depth c = λ old new atom front within. depth_stays old new atom.0 front within

pub returns-clause-further : goal.returns-clause-further
returns-clause-further c = front_further
