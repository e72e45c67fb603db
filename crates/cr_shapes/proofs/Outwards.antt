-- Scopes outwards from one, up to a block with which a fiber begins.
use Rattle.std.proofs.Common.{◌≡◌, ℕ, suc, ◌<◌, true, false, List, length, Option, Some, None, refl, sym, ap, ◌∙◌, subst, ◌↔◌, IsTrue, rules, arith}
use Rattle.std.specs.Prelude.{slice_get, IfSome}
use Rattle.std.proofs.lemmas.Option.{same_Some, slice_get_within}
use Rattle.cr_core.specs.declared.form.ScopeId.{ScopeId}
use Rattle.cr_core.specs.declared.scope.Scope.{Scope}
use Rattle.cr_core.specs.declared.scope.ScopeKind.{ScopeKind}
use Rattle.cr_core.specs.declared.scope.ScopeKind.TheVariants.{Main, Method, Block, Spawn}
use Rattle.cr_core.specs.Tree.{Contents, IsCore, is_spawn_kind}
use Rattle.cr_shapes.specs.Homes.{IsSpawnedScope}
use Rattle.cr_shapes.specs.Homes as s

-- where a scope is left
abbrev pub IsSpawnedFrom : List Scope → Option ScopeId → Type 0
IsSpawnedFrom scopes None = ⊥
IsSpawnedFrom scopes (Some k) = IsSpawnedScope scopes k.0

-- how many scopes there may be outwards from here
abbrev pub distance : Option ScopeId → ℕ
distance None = 0
distance (Some k) = suc k.0

spawn_kind : (kind : ScopeKind) → is_spawn_kind kind ≡ true → kind ≡ Spawn
spawn_kind Main e = absurd cc
spawn_kind Method e = absurd cc
spawn_kind Block e = absurd cc
spawn_kind Spawn e = refl

pub at_spawn : (scopes : List Scope) (k : ScopeId) (scope : Scope) → slice_get scopes k.0 ≡ Some scope → is_spawn_kind scope.kind ≡ true → IsSpawnedScope scopes k.0
at_spawn scopes k scope at is = s.itself k.0 scope at (spawn_kind scope.kind is)

further : (scopes : List Scope) (k : ℕ) (scope : Scope) (home : Option ScopeId) → slice_get scopes k ≡ Some scope → scope.home ≡ home → IsSpawnedFrom scopes home → IsSpawnedScope scopes k
further scopes k scope None at is from = absurd from
further scopes k scope (Some home) at is from = s.inside k scope home at is from

pub only : (scopes : List Scope) (k : ℕ) → IsSpawnedScope scopes k → (scope : Scope) → slice_get scopes k ≡ Some scope → is_spawn_kind scope.kind ≡ false → IsSpawnedFrom scopes scope.home
only scopes k (s.itself j other there kind) scope at not_one =
    let same : scope ≡ other = same_Some scope other (sym at ∙ there) in
    let clash : true ≡ false = sym (ap is_spawn_kind kind) ∙ sym (ap (λ (x : Scope). is_spawn_kind x.kind) same) ∙ not_one in
    absurd cc
only scopes k (s.inside j other home there is more) scope at not_one =
    let same : scope ≡ other = same_Some scope other (sym at ∙ there) in
    subst (IsSpawnedFrom scopes) (sym (ap (λ (x : Scope). x.home) same ∙ is)) more

-- a scope that is not of such a block is in one exactly where its home is
pub at_other : (scopes : List Scope) (k : ScopeId) (scope : Scope) → slice_get scopes k.0 ≡ Some scope → is_spawn_kind scope.kind ≡ false → IsSpawnedFrom scopes scope.home ↔ IsSpawnedScope scopes k.0
at_other scopes k scope at not_one = (further scopes k.0 scope scope.home at refl, λ spawned. only scopes k.0 spawned scope at not_one)

near : (home : Option ScopeId) (k n : ℕ) → IfSome home (λ h. h.0 < k) → k < n → IfSome home (λ h. h.0 < n) × (distance home < suc k)
near None k n low there = (tt, omega arith)
near (Some home) k n low there = (omega (arith, low, there), omega (arith, low))

pub nearer : (t : Contents) (k : ScopeId) (scope : Scope) → IsCore t → slice_get t.scopes k.0 ≡ Some scope → IfSome scope.home (λ h. h.0 < length t.scopes) × (distance scope.home < suc k.0)
nearer t k scope core at = near scope.home k.0 (length t.scopes) (core.scopes k.0 scope at).home (slice_get_within t.scopes k.0 scope at)

-- ---- one turn outwards

pub low_at : (n : ℕ) (at : Option ScopeId) (k : ScopeId) → IfSome at (λ h. h.0 < n) → at ≡ Some k → k.0 < n
low_at n at k low is = let here : IfSome (Some k) (λ (h : ScopeId). h.0 < n) = subst (λ (o : Option ScopeId). IfSome o (λ (h : ScopeId). h.0 < n)) is low in here

from_here : (scopes : List Scope) (at : Option ScopeId) (k : ScopeId) (start : ℕ) → (IsSpawnedFrom scopes at ↔ IsSpawnedScope scopes start) → at ≡ Some k → IsSpawnedScope scopes k.0 ↔ IsSpawnedScope scopes start
from_here scopes at k start same is = subst (λ (o : Option ScopeId). IsSpawnedFrom scopes o ↔ IsSpawnedScope scopes start) is same

pub found : (scopes : List Scope) (at : Option ScopeId) (k : ScopeId) (scope : Scope) (start : ℕ) → (IsSpawnedFrom scopes at ↔ IsSpawnedScope scopes start) → at ≡ Some k →
    slice_get scopes k.0 ≡ Some scope → is_spawn_kind scope.kind ≡ true → IsTrue true ↔ IsSpawnedScope scopes start
found scopes at k scope start same is stands kind = (λ yes. (from_here scopes at k start same is).0 (at_spawn scopes k scope stands kind), λ spawned. search rules)

pub onward : (scopes : List Scope) (at : Option ScopeId) (k : ScopeId) (scope : Scope) (start : ℕ) → (IsSpawnedFrom scopes at ↔ IsSpawnedScope scopes start) → at ≡ Some k →
    slice_get scopes k.0 ≡ Some scope → is_spawn_kind scope.kind ≡ false → IsSpawnedFrom scopes scope.home ↔ IsSpawnedScope scopes start
onward scopes at k scope start same is stands kind =
    let here = from_here scopes at k start same is in
    let step = at_other scopes k scope stands kind in
    (λ from. here.0 (step.0 from), λ spawned. step.1 (here.1 spawned))

pub never : (scopes : List Scope) (at : Option ScopeId) (start : ℕ) → (IsSpawnedFrom scopes at ↔ IsSpawnedScope scopes start) → at ≡ None → IsTrue false ↔ IsSpawnedScope scopes start
never scopes at start same is = (
  λ no. absurd (search rules),
  λ spawned. let here : ⊥ = subst (IsSpawnedFrom scopes) is (same.1 spawned) in absurd here,
)
