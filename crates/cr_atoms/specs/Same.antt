-- The tests of sets and of arguments by which the table finds an atom, and their laws.
use Rattle.std.specs.Prelude.{◌==◌, Bool, List}
use Rattle.std.proofs.Common.{eqb-true, ap}
use Rattle.std.specs.Hash as fed
use Rattle.std.specs.Hash.{Alike, HashWrites, items_Alike}
use Rattle.std.specs.Cmp.{IsEquivalence}
use Rattle.std.specs.Cmp.Lexicographic.{pointwise, lists_equiv}
use Rattle.std.proofs.lemmas.Cmp.{nat_eq_equiv, on_equiv}
use Rattle.cr_base.specs.declared.ids.AtomId.{AtomId}

abbrev pub same_atom : AtomId → AtomId → Bool
same_atom a b = a.0 == b.0

abbrev pub same_set : List AtomId → List AtomId → Bool
same_set = pointwise same_atom

pub same_set_equiv : IsEquivalence same_set
same_set_equiv = lists_equiv (on_equiv (λ (a : AtomId). a.0) nat_eq_equiv)

-- what a set gives to a hasher: how many atoms it has, and their numbers
abbrev pub fed_set : List AtomId → HashWrites
fed_set = fed.slice (λ atom. fed.u32 atom.0)

-- equal sets are fed alike
pub same_set_fed : Alike same_set fed_set
same_set_fed = items_Alike (record { fed = λ a b e. ap fed.u32 (eqb-true a.0 b.0 e) })
