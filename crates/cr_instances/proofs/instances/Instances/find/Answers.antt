use Rattle.std.proofs.Common.{◌≡◌, List, slice_get, Contains, Some, sym, subst, true≢false, rules}
use Rattle.cr_instances.specs.declared.key.Key.{Key}
use Rattle.cr_instances.specs.contracts.key.KeyEq.TheImpl.Laws.{laws-law}
use Rattle.cr_instances.proofs.Keys.{key_same}
use Rattle.cr_instances.proofs.Found.{found_at, found, absent}
use Rattle.cr_instances.proofs.instances.Instances.find.Goals as goal

pub returns-clause-place : goal.returns-clause-place
returns-clause-place c =
    subst (λ (keys : List Key). slice_get keys c.in_ok-place.place ≡ Some c.args.key.now) c.self.view_is
    (found_at key_same c.self.inside.keys.keys c.args.key.now c.in_ok-place.place c.in_ok-place.ensures.index)

pub returns-clause-none : goal.returns-clause-none
returns-clause-none c = (
  λ e. absurd (true≢false e),
  λ none. absurd (none (subst (λ (keys : List Key). Contains keys c.args.key.now) c.self.view_is
      (found key_same c.self.inside.keys.keys c.args.key.now c.in_ok-place.ensures.found))),
)

pub returns-in_err-place-clause-none : goal.returns-in_err-place-clause-none
returns-in_err-place-clause-none c = (
  λ e h. absent laws-law c.self.inside.keys.keys c.args.key.now c.in_err-place.ensures.found
      (subst (λ (keys : List Key). Contains keys c.args.key.now) (sym c.self.view_is) h),
  λ none. search rules,
)
