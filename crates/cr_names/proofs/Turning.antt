-- What stands above itself.
use Rattle.std.proofs.Common.{◌≡◌, ℕ, Option, Some, None, refl, sym, ap, ◌∙◌, subst, IsTrue, ◌↔◌, Bool}
use Rattle.cr_base.specs.declared.ids.NameId.{NameId}
use Rattle.cr_core.specs.declared.row.Row.{Row}
use Rattle.cr_core.specs.Tree.{Contents}
use Rattle.cr_names.specs.declared.offence.What.{What}
use Rattle.cr_names.specs.declared.offence.What.TheVariants.{UnknownClass, Twice, CyclicParent, BadArity}
use Rattle.cr_names.specs.Names.{declared_by}
use Rattle.cr_names.specs.Offences.{IsRow, IsOffence}
use Rattle.cr_names.specs.Offences as o
use Rattle.cr_names.specs.Cyclic.{IsCyclic}
use Rattle.cr_names.proofs.Decided.{same_row}

abbrev Seen : Contents → ℕ → Row → What → Type 0
Seen t n row UnknownClass = Unit {0}
Seen t n row Twice = Unit {0}
Seen t n row CyclicParent = IsCyclic t n (declared_by row.form)
Seen t n row BadArity = Unit {0}

seen : (t : Contents) (n : ℕ) (row : Row) (what : What) → IsRow t n row → IsOffence t n what → Seen t n row what
seen t n row _ at (o.cyclic r name stands declares is above) =
    let same = same_row t n row r at stands in
    let here : declared_by row.form ≡ Some name = ap (λ (x : Row). declared_by x.form) (sym same) ∙ declares in
    subst (λ (x : Option NameId). IsCyclic t n x) (sym here) (is, above)
seen t n row _ at offence = tt

found : (t : Contents) (n : ℕ) (row : Row) (name : Option NameId) → IsRow t n row → declared_by row.form ≡ name → IsCyclic t n name → IsOffence t n CyclicParent
found t n row None at is cyclic = absurd cyclic
found t n row (Some name) at is cyclic = o.cyclic row name at is cyclic.0 cyclic.1

-- a row stands above itself exactly where that is its offence
pub cyclic_decided : (t : Contents) (n : ℕ) (row : Row) (r : Bool) → IsRow t n row → (IsTrue r ↔ IsCyclic t n (declared_by row.form)) → IsTrue r ↔ IsOffence t n CyclicParent
cyclic_decided t n row r at says = (λ h. found t n row (declared_by row.form) at refl (says.0 h), λ offence. says.1 (seen t n row CyclicParent at offence))
