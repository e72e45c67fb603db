use Rattle.std.proofs.Common.{◌<◌, not, ◌∷◌, []}
use Rattle.std.proofs.lemmas.List.Kept.{AllPairs-filter}
use Rattle.cr_base.specs.declared.ids.AtomId.{AtomId}
use Rattle.cr_atoms.specs.Table.{class_of, is_of_any}
use Rattle.cr_atoms.proofs.Classes.{from_filter, in_filter, among, is_in, other_class, is_other}
use Rattle.cr_atoms.proofs.laws.meet_law.Goals as goal

pub returns-clause-members : goal.returns-clause-members
returns-clause-members c = λ atoms classes set atom. (
  λ h. let kept = from_filter (is_of_any atoms classes) set atom h in (kept.0, among classes (class_of atoms atom) kept.1),
  λ h. in_filter (is_of_any atoms classes) set atom h.0 (is_in classes (class_of atoms atom) h.1),
)

pub returns-clause-ascending : goal.returns-clause-ascending
returns-clause-ascending c = λ atoms classes set h. AllPairs-filter (λ (a b : AtomId). a.0 < b.0) (is_of_any atoms classes) set h

pub returns-clause-others : goal.returns-clause-others
returns-clause-others c = λ atoms class set atom. (
  λ h. let kept = from_filter (λ (a : AtomId). not (is_of_any atoms (class ∷ []) a)) set atom h in (kept.0, other_class class (class_of atoms atom) kept.1),
  λ h. in_filter (λ (a : AtomId). not (is_of_any atoms (class ∷ []) a)) set atom h.0 (is_other class (class_of atoms atom) h.1),
)

pub returns-clause-others_ascending : goal.returns-clause-others_ascending
returns-clause-others_ascending c = λ atoms class set h. AllPairs-filter (λ (a b : AtomId). a.0 < b.0) (λ (a : AtomId). not (is_of_any atoms (class ∷ []) a)) set h
