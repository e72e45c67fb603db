-- Scopes that are settled row by row are settled.
use Rattle.std.proofs.Common.{◌≡◌, ℕ, zero, suc, ◌+◌, ◌<◌, ◌≤◌, ◌⊎◌, inl, inr, Bool, List, [], ◌∷◌, ◌++◌, length, Option, Some, None, refl, sym, ap, ◌∙◌, subst, arith, append_assoc, length-append}
use Rattle.std.specs.Prelude.{slice_get, slice_set}
use Rattle.cr_core.specs.declared.form.ScopeId.{ScopeId}
use Rattle.cr_core.specs.declared.row.Row.{Row}
use Rattle.cr_core.specs.declared.scope.Scope.{Scope}
use Rattle.cr_core.specs.Arena.{Opening, Opens, Turns, Plain, opening}
use Rattle.cr_core.specs.Tree.{scope_of}
use Rattle.cr_core.specs.Scopes.{OpensOnce, AreSettled}
use Rattle.cr_core.specs.Settle.{opened_scope, with_scope, settled_at, settled_from}
use Rattle.cr_core.proofs.Walked.{get_seam}

-- ---- one scope is set

set_same : (ss : List Scope) (k : ℕ) (s s' : Scope) → slice_get ss k ≡ Some s → slice_get (slice_set ss k s') k ≡ Some s'
set_same [] k s s' is = absurd cc
set_same (x ∷ ss) zero s s' is = refl
set_same (x ∷ ss) (suc k) s s' is = set_same ss k s s' is

set_other : (ss : List Scope) (j k : ℕ) (s' : Scope) → (j ≡ k → ⊥) → slice_get (slice_set ss j s') k ≡ slice_get ss k
set_other [] j k s' ne = refl
set_other (x ∷ ss) zero zero s' ne = absurd (ne refl)
set_other (x ∷ ss) zero (suc k) s' ne = refl
set_other (x ∷ ss) (suc j) zero s' ne = refl
set_other (x ∷ ss) (suc j) (suc k) s' ne = set_other ss j k s' (λ e. ne (ap suc e))

set_many : (ss : List Scope) (k : ℕ) (s : Scope) → length (slice_set ss k s) ≡ length ss
set_many [] k s = refl
set_many (x ∷ ss) zero s = refl
set_many (x ∷ ss) (suc k) s = ap suc (set_many ss k s)

-- ---- one row

step_other : (rs : List Row) (n : ℕ) (r : Row) (ss : List Scope) (o : Opening) (k : ScopeId) → (o ≡ Opens k → ⊥) → slice_get (settled_at rs n r ss (opened_scope o)) k.0 ≡ slice_get ss k.0
step_other rs n r ss Turns k ne = refl
step_other rs n r ss Plain k ne = refl
step_other rs n r ss (Opens j) k ne = by_scope (slice_get ss j.0)
  where
    by_scope : (s : Option Scope) → slice_get (with_scope rs n r j ss s) k.0 ≡ slice_get ss k.0
    by_scope None = refl
    by_scope (Some s) = set_other ss j.0 k.0 (scope_of rs n r s.slots) (λ e. ne (ap (λ (m : ℕ). Opens (record { 0 = m })) e))

step_same : (rs : List Row) (n : ℕ) (r : Row) (ss : List Scope) (o : Opening) (k : ScopeId) (s : Scope) → o ≡ Opens k → slice_get ss k.0 ≡ Some s → slice_get (settled_at rs n r ss (opened_scope o)) k.0 ≡ Some (scope_of rs n r s.slots)
step_same rs n r ss o k s opens is =
    ap (λ (o : Opening). slice_get (settled_at rs n r ss (opened_scope o)) k.0) opens
    ∙ ap (λ (found : Option Scope). slice_get (with_scope rs n r k ss found) k.0) is
    ∙ set_same ss k.0 s (scope_of rs n r s.slots) is

step_many : (rs : List Row) (n : ℕ) (r : Row) (ss : List Scope) (o : Opening) → length (settled_at rs n r ss (opened_scope o)) ≡ length ss
step_many rs n r ss Turns = refl
step_many rs n r ss Plain = refl
step_many rs n r ss (Opens j) = by_scope (slice_get ss j.0)
  where
    by_scope : (s : Option Scope) → length (with_scope rs n r j ss s) ≡ length ss
    by_scope None = refl
    by_scope (Some s) = set_many ss j.0 (scope_of rs n r s.slots)

-- ---- all rows

many_kept : (rs : List Row) (n : ℕ) (more : List Row) (ss : List Scope) → length (settled_from rs n more ss) ≡ length ss
many_kept rs n [] ss = refl
many_kept rs n (r ∷ more) ss = many_kept rs (suc n) more (settled_at rs n r ss (opened_scope (opening r.form))) ∙ step_many rs n r ss (opening r.form)

kept : (rs : List Row) (n : ℕ) (more : List Row) (ss : List Scope) (k : ScopeId) → ((i : ℕ) (r : Row) → slice_get more i ≡ Some r → opening r.form ≡ Opens k → ⊥) → slice_get (settled_from rs n more ss) k.0 ≡ slice_get ss k.0
kept rs n [] ss k none = refl
kept rs n (r ∷ more) ss k none =
    kept rs (suc n) more (settled_at rs n r ss (opened_scope (opening r.form))) k (λ i q is. none (suc i) q is)
    ∙ step_other rs n r ss (opening r.form) k (none 0 r refl)

-- row i of those from row n on opens the scope, and no other of them does
opened_among : (rs : List Row) (n : ℕ) (more : List Row) (ss : List Scope) (k : ScopeId) (s : Scope) (i : ℕ) (r : Row) → slice_get more i ≡ Some r → opening r.form ≡ Opens k → ((j : ℕ) (q : Row) → slice_get more j ≡ Some q → opening q.form ≡ Opens k → j ≡ i) → slice_get ss k.0 ≡ Some s → slice_get (settled_from rs n more ss) k.0 ≡ Some (scope_of rs (n + i) r s.slots)
opened_among rs n [] ss k s i r is opens once at = absurd cc
opened_among rs n (q ∷ more) ss k s zero r is opens once at =
    let same : q ≡ r = cc in
    let here : n ≡ n + 0 = omega arith in
    kept rs (suc n) more (settled_at rs n q ss (opened_scope (opening q.form))) k (λ j p is opens. absurd (omega (arith, once (suc j) p is opens)))
    ∙ step_same rs n q ss (opening q.form) k s (ap (λ (r : Row). opening r.form) same ∙ opens) at
    ∙ ap (λ (r : Row). Some (scope_of rs n r s.slots)) same
    ∙ ap (λ (m : ℕ). Some (scope_of rs m r s.slots)) here
opened_among rs n (q ∷ more) ss k s (suc i) r is opens once at =
    let there : suc n + i ≡ n + suc i = omega arith in
    opened_among rs (suc n) more (settled_at rs n q ss (opened_scope (opening q.form))) k s i r is opens
    (λ j p is opens. let far = once (suc j) p is opens in omega (arith, far))
    (step_other rs n q ss (opening q.form) k (λ opens. absurd (omega (arith, once 0 q refl opens))) ∙ at)
    ∙ ap (λ (m : ℕ). Some (scope_of rs m r s.slots)) there

pub settled : (rs : List Row) (ss : List Scope) → OpensOnce rs → AreSettled rs ss (settled_from rs 0 rs ss)
settled rs ss once = record {
  many = many_kept rs 0 rs ss;
  opened = λ n r k s is opens at.
      let here : 0 + n ≡ n = omega arith in
      opened_among rs 0 rs ss k s n r is opens (λ j q there also. once.once j n q r k there is also opens) at
      ∙ ap (λ (m : ℕ). Some (scope_of rs m r s.slots)) here;
  others = λ k none. kept rs 0 rs ss k none;
}
