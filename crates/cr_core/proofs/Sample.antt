-- A small core tree, and that what holds of every one holds of it.
use Rattle.std.proofs.Common.{◌≡◌, ℕ, zero, suc, ◌+◌, ◌<◌, Bool, true, false, List, [], ◌∷◌, length, Option, Some, None, refl, sym, ap, ◌∙◌, subst, arith}
use Rattle.std.specs.Prelude.{codes, slice_get, All, IfSome, IsNone}
use Rattle.std.proofs.lemmas.List.Elements.{All-nil, All-cons}
use Rattle.cr_base.specs.declared.ids.NodeId.{NodeId}
use Rattle.cr_base.specs.declared.ids.NameId.{NameId}
use Rattle.cr_core.specs.declared.form.Form.{Form}
use Rattle.cr_core.specs.declared.form.Form.TheVariants as f
use Rattle.cr_core.specs.declared.form.Local.{Local}
use Rattle.cr_core.specs.declared.form.ScopeId.{ScopeId}
use Rattle.cr_core.specs.declared.row.Place.{Place}
use Rattle.cr_core.specs.declared.row.Row.{Row}
use Rattle.cr_core.specs.declared.scope.Scope.{Scope}
use Rattle.cr_core.specs.declared.scope.ScopeKind.TheVariants.{Main}
use Rattle.cr_core.specs.declared.scope.Slot.{Slot}
use Rattle.cr_core.specs.Core.{Core, none, node, one}
use Rattle.cr_core.specs.Shape as k
use Rattle.cr_core.specs.Arena.{node_id, rows, outermost}
use Rattle.cr_core.specs.Standing.{Shaped}
use Rattle.cr_core.specs.Tree.{Contents, form_at, HasName, is_captured, IsKnown, IsScope, IsRooted, IsCore}
use Rattle.cr_core.proofs.Standing.{rows_are_an_arena}

-- what holds of each item of a list with its number, item by item
abbrev Each : {X : Type 0} → (ℕ → X → Type 0) → ℕ → List X → Type 0
Each P n [] = Unit {0}
Each P n (x ∷ xs) = P n x × Each P (suc n) xs

each_at : {X : Type 0} (P : ℕ → X → Type 0) (n : ℕ) (xs : List X) → Each P n xs → (i : ℕ) (x : X) → slice_get xs i ≡ Some x → (m : ℕ) → m ≡ n + i → P m x
each_at P n [] all i x is m at = absurd cc
each_at P n (y ∷ ys) all zero x is m at =
    let same : y ≡ x = cc in
    let here : m ≡ n = omega (arith, at) in
    subst (λ (z : _). P m z) same (subst (λ (j : ℕ). P j y) (sym here) all.0)
each_at P n (y ∷ ys) all (suc i) x is m at = each_at P (suc n) ys all.1 i x is m (omega (arith, at))

abbrev first_scope : ScopeId
first_scope = record { 0 = 0 }

abbrev x : Local
x = record { scope = first_scope; slot = 0; up = 0 }

abbrev at_source : ℕ → Place
at_source n = record { prelude = false; at = n }

abbrev pub trees : Core
trees = one (f.Program first_scope) (at_source 0)
    (node (f.Include (record { 0 = 0 })) (record { prelude = true; at = 5 }) none
    (one (f.Set x) (at_source 0) (one (f.Text (record { 0 = 0 })) (at_source 4) none)))

abbrev pub contents : Contents
contents = record {
  rows = rows trees;
  scopes = record { kind = Main; home = None; site = node_id 0; body = node_id 2; parameters = 0; slots = record { name = Some (record { 0 = 0 }); captured = false } ∷ [] } ∷ [];
  names = codes "x" ∷ [];
  texts = codes "a" ∷ [];
}

shaped : Shaped trees
shaped = ((k.Member ∷ [], k.Term ∷ [], refl, (refl, tt), (refl, tt)), (tt, tt, ((refl, tt), (tt, tt, tt), tt)), tt)

abbrev scope : Scope
scope = record { kind = Main; home = None; site = node_id 0; body = node_id 2; parameters = 0; slots = record { name = Some (record { 0 = 0 }); captured = false } ∷ [] }

no_parameters : (ps : List NodeId) → Each (λ (i : ℕ) (p : NodeId). (slot : ℕ) (restricted : Bool) → form_at (rows trees) (Some p) ≡ Some (f.Parameter slot restricted) → slot ≡ i) 0 ps → (i slot : ℕ) (restricted : Bool) (p : NodeId) → slice_get ps i ≡ Some p → form_at (rows trees) (Some p) ≡ Some (f.Parameter slot restricted) → slot ≡ i
no_parameters ps all i slot restricted p is form = each_at (λ (i : ℕ) (p : NodeId). (slot : ℕ) (restricted : Bool) → form_at (rows trees) (Some p) ≡ Some (f.Parameter slot restricted) → slot ≡ i) 0 ps all i p is i (omega arith) slot restricted form

known : Each (IsKnown contents) 0 (rows trees)
known = (
  record {
    scope = omega arith;
    names = All-nil (HasName contents);
    text = tt;
    local = tt;
    opens = λ k is. let same : first_scope ≡ k = cc in (scope, subst (λ (k : ScopeId). slice_get contents.scopes k.0 ≡ Some scope) same refl, refl);
    parameters = no_parameters (node_id 1 ∷ node_id 2 ∷ []) ((λ slot restricted is. absurd cc), ((λ slot restricted is. absurd cc), tt));
  },
  (
    record {
      scope = omega arith;
      names = All-cons (HasName contents) (record { 0 = 0 }) [] (omega arith) (All-nil (HasName contents));
      text = tt;
      local = tt;
      opens = λ k is. absurd cc;
      parameters = no_parameters [] tt;
    },
    (
      record {
        scope = omega arith;
        names = All-nil (HasName contents);
        text = tt;
        local = record { resolved = refl; scope = scope; stands = refl; slot = omega arith };
        opens = λ k is. absurd cc;
        parameters = no_parameters (node_id 3 ∷ []) ((λ slot restricted is. absurd cc), tt);
      },
      (
        record {
          scope = omega arith;
          names = All-nil (HasName contents);
          text = omega arith;
          local = tt;
          opens = λ k is. absurd cc;
          parameters = no_parameters [] tt;
        },
        tt,
      ),
    ),
  ),
)

abbrev HasNone : ℕ → Row → Type 0
HasNone n r = IsNone r.within.parent → n ≡ 0

slots_are : Each (λ (i : ℕ) (slot : Slot). IfSome slot.name (HasName contents) × (slot.captured ≡ is_captured contents.rows contents.scopes first_scope i)) 0 scope.slots
slots_are = ((omega arith, refl), tt)

scopes_are : Each (IsScope contents) 0 contents.scopes
scopes_are = (
  record {
    opener = 0;
    row = record { form = f.Program first_scope; place = at_source 0; within = outermost; parts = node_id 1 ∷ node_id 2 ∷ [] };
    stands = refl;
    opened = refl;
    home = tt;
    parameters = omega arith;
    slot = λ i slot is. each_at (λ (i : ℕ) (slot : Slot). IfSome slot.name (HasName contents) × (slot.captured ≡ is_captured contents.rows contents.scopes first_scope i)) 0 scope.slots slots_are i slot is i (omega arith);
  },
  tt,
)

pub is_core : IsCore contents
is_core = record {
  arena = rows_are_an_arena trees shaped;
  rooted = record {
    root = record { form = f.Program first_scope; place = at_source 0; within = outermost; parts = node_id 1 ∷ node_id 2 ∷ [] };
    stands = refl;
    program = refl;
    alone = λ n r is. each_at HasNone 0 (rows trees) ((λ none. refl), ((λ none. absurd cc), ((λ none. absurd cc), ((λ none. absurd cc), tt)))) n r is n (omega arith);
  };
  rows = λ n r is. each_at (IsKnown contents) 0 (rows trees) known n r is n (omega arith);
  scopes = λ k s is. each_at (IsScope contents) 0 contents.scopes scopes_are k s is k (omega arith);
  few_rows = omega arith;
  few_scopes = omega arith;
}
