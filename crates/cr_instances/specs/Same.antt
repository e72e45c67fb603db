-- The test of two atoms' numbers, and the laws that a list of atoms needs to be found by its hash.
use Rattle.std.specs.Prelude.{◌==◌, Bool}
use Rattle.std.proofs.Common.{eqb-true, ap}
use Rattle.std.specs.Hash as fed
use Rattle.std.specs.Hash.{Alike}
use Rattle.std.specs.Cmp.{IsEquivalence}
use Rattle.std.proofs.lemmas.Cmp.{nat_eq_equiv, on_equiv}
use Rattle.cr_base.specs.declared.ids.AtomId.{AtomId}

abbrev pub same_atom : AtomId → AtomId → Bool
same_atom a b = a.0 == b.0

pub same_atom_equiv : IsEquivalence same_atom
same_atom_equiv = on_equiv (λ (a : AtomId). a.0) nat_eq_equiv

-- equal atoms are fed alike
pub same_atom_fed : Alike same_atom (λ atom. fed.u32 atom.0)
same_atom_fed = record { fed = λ a b e. ap fed.u32 (eqb-true a.0 b.0 e) }
