-- What is told of an instance variable, and one variable more.
use Rattle.std.proofs.Common.{◌≡◌, ◌↔◌, ℕ, zero, suc, Bool, IsTrue, List, [], ◌∷◌, ◌++◌, length, Option, Some, None, refl, sym, ap, ◌∙◌, subst}
use Rattle.std.specs.Prelude.{slice_get}
use Rattle.std.proofs.lemmas.Option.{same_Some}
use Rattle.cr_base.specs.declared.ids.NameId.{NameId}
use Rattle.cr_base.specs.declared.ids.NodeId.{NodeId}
use Rattle.cr_core.specs.declared.form.ScopeId.{ScopeId}
use Rattle.cr_core.specs.declared.row.Row.{Row}
use Rattle.cr_core.specs.declared.scope.Scope.{Scope}
use Rattle.cr_core.specs.Tree.{Contents, IsCore}
use Rattle.cr_flow.specs.declared.assigned.Unassigned.{Unassigned}
use Rattle.cr_flow.specs.declared.variable.Variable.{Variable}
use Rattle.cr_flow.specs.declared.variable.Variable.TheVariants.{Field}
use Rattle.cr_flow.specs.Ways.{End}
use Rattle.cr_flow.specs.Assigned.{IsAssigned}
use Rattle.cr_flow.specs.Uses.{asked}
use Rattle.cr_flow.specs.Outs.{reaches_end}
use Rattle.cr_flow.specs.Steps.{field_reach}
use Rattle.cr_flow.specs.Several.{IsUnassigned, AreTold}
use Rattle.cr_flow.proofs.Law.{exactly_end, first, at_end}

pub told_field : (t : Contents) (scope : ScopeId) (s : Scope) → slice_get t.scopes scope.0 ≡ Some s → IsCore t → (ranks : List (Option ℕ)) (k : NameId) (u : Unassigned) → u.first_use ≡ (field_reach t.rows ranks k s.body).found → u.end ≡ reaches_end (field_reach t.rows ranks k s.body) → IsUnassigned t scope ranks (Field k) u
told_field t scope s at core ranks k u f e = (
  first t scope (Field k) s at core refl ranks u.first_use f,
  subst (λ (b : Bool). IsTrue b ↔ ¬ (IsAssigned t scope (Field k) End)) (sym e)
      (exactly_end (reaches_end (field_reach t.rows ranks k s.body)) (IsAssigned t scope (Field k) End) (at_end t scope (Field k) s at (asked t.rows None ranks (Field k)) core refl)),
)

-- what holds of the rows and the body of a scope holds of them where they are read once more
pub of_scope : (P : List Row → NodeId → Type 0) (t : Contents) (scope : ScopeId) (rows : List Row) (v : Scope) → rows ≡ t.rows → slice_get t.scopes scope.0 ≡ Some v → P rows v.body → (s : Scope) → slice_get t.scopes scope.0 ≡ Some s → P t.rows s.body
of_scope P t scope rows v is e h = λ s at. subst (λ (q : Scope). P t.rows q.body) (same_Some v s (sym e ∙ at)) (subst (λ (l : List Row). P l v.body) is h)

push_told : {X Y : Type 0} (P : X → Y → Type 0) (xs : List X) (us : List Y) (x : X) (u : Y) → ((i : ℕ) (a : X) (b : Y) → slice_get xs i ≡ Some a → slice_get us i ≡ Some b → P a b) → slice_get xs (length us) ≡ Some x → P x u → (i : ℕ) (a : X) (b : Y) → slice_get xs i ≡ Some a → slice_get (us ++ u ∷ []) i ≡ Some b → P a b
push_told P xs [] x u h at is zero a b e g = subst (λ v. P v b) (same_Some x a (sym at ∙ e)) (subst (P x) (same_Some u b g) is)
push_told P xs [] x u h at is (suc i) a b e g = absurd (cc)
push_told P [] (v ∷ us) x u h at is i a b e g = absurd (cc)
push_told P (y ∷ xs) (v ∷ us) x u h at is zero a b e g = h zero a b e g
push_told P (y ∷ xs) (v ∷ us) x u h at is (suc i) a b e g = push_told P xs us x u (λ j c d m w. h (suc j) c d m w) at is i a b e g

pub told_more : (t : Contents) (scope : ScopeId) (ranks : List (Option ℕ)) (xs : List Variable) (us : List Unassigned) (x : Variable) (u : Unassigned) → AreTold t scope ranks xs us → slice_get xs (length us) ≡ Some x → IsUnassigned t scope ranks x u → AreTold t scope ranks xs (us ++ u ∷ [])
told_more t scope ranks xs us x u h at is = push_told (IsUnassigned t scope ranks) xs us x u h at is
