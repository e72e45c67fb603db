use Rattle.std.proofs.Common.{◌∙◌, sym, subst, ◌<◌, Option}
use Rattle.cr_core.specs.declared.form.ScopeId.{ScopeId}
use Rattle.cr_shapes.proofs.Outwards.{distance, low_at, nearer, found, onward, never}
use Rattle.cr_shapes.proofs.spawned.is_spawned.Goals as goal

pub outwards-init : goal.outwards-init
outwards-init c = (c.requires.there, (λ h. h, λ h. h))

pub scope-scope-requires : goal.scope-scope-requires
scope-scope-requires c = low_at _ c.outwards.at c.in-Some.around c.outwards.invariant.0 c.in-Some.is

pub returns-then-is_spawn_kind : goal.returns-then-is_spawn_kind
returns-then-is_spawn_kind c =
    found c.args.core.now.scopes c.outwards.at c.in-Some.around c.scope-scope.result.now c.args.scope.0 c.outwards.invariant.1 c.in-Some.is c.scope-scope.ensures
    (sym c.is_spawn_kind.ensures ∙ c.if-is_spawn_kind.true)

pub outwards-smaller : goal.outwards-smaller
outwards-smaller c =
    let near = nearer c.args.core.now c.in-Some.around c.scope-scope.result.now c.requires.core c.scope-scope.ensures in
    subst (λ (o : Option ScopeId). distance c.scope-scope.result.now.home < distance o) (sym c.in-Some.is) near.1

pub outwards-preserved : goal.outwards-preserved
outwards-preserved c = (
  (nearer c.args.core.now c.in-Some.around c.scope-scope.result.now c.requires.core c.scope-scope.ensures).0,
  onward c.args.core.now.scopes c.outwards.at c.in-Some.around c.scope-scope.result.now c.args.scope.0 c.outwards.invariant.1 c.in-Some.is c.scope-scope.ensures
      (sym c.is_spawn_kind.ensures ∙ c.if-is_spawn_kind.false),
)

pub returns : goal.returns
returns c = never c.args.core.now.scopes c.outwards.at c.args.scope.0 c.outwards.invariant.1 c.in_default.is
