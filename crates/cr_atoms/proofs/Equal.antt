-- Two atoms that pass the derived test are equal.
use Rattle.std.proofs.Common.{◌≡◌, ◌&&◌, ◌==◌, Bool, true, List, ap, eqb-true, eq-eqb}
use Rattle.std.specs.Bool.{Decides}
use Rattle.std.specs.Cmp.{first_so, second_so}
use Rattle.std.specs.Cmp.Lexicographic.{pointwise, pointwise_decides}
use Rattle.cr_base.specs.declared.ids.AtomId.{AtomId}
use Rattle.cr_atoms.specs.Same.{same_atom, same_set}
use Rattle.cr_atoms.specs.declared.atom.Atom.{Atom}

-- the test that the derive of `Atom` makes
abbrev pub same_written : Atom → Atom → Bool
same_written a b = (a.class.0 == b.class.0) && pointwise same_set a.args b.args

numbers_decide : (a b : AtomId) → Decides (same_atom a b) (a ≡ b)
numbers_decide a b = (λ e. let n : a.0 ≡ b.0 = eqb-true a.0 b.0 e in λ i. record { 0 = n i }, λ e. eq-eqb a.0 b.0 (ap (λ (c : AtomId). c.0) e))

sets_decide : (a b : List AtomId) → Decides (same_set a b) (a ≡ b)
sets_decide = pointwise_decides numbers_decide

pub written_same : (a b : Atom) → same_written a b ≡ true → a ≡ b
written_same a b e =
    let class : a.class.0 ≡ b.class.0 = eqb-true a.class.0 b.class.0 (first_so (a.class.0 == b.class.0) _ e) in
    let args : a.args ≡ b.args = (pointwise_decides sets_decide a.args b.args).0 (second_so (a.class.0 == b.class.0) _ e) in
    λ i. record { class = record { 0 = class i }; args = args i }
