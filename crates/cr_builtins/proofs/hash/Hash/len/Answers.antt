use Rattle.std.proofs.Common.{◌≢◌, subst, map, AllPairs}
use Rattle.cr_builtins.specs.Hashes.{Pairs}
use Rattle.cr_builtins.proofs.Pairs.{apart}
use Rattle.cr_builtins.proofs.hash.Hash.len.Goals as goal

pub returns-clause-distinct : goal.returns-clause-distinct
returns-clause-distinct c =
    subst (λ (pairs : Pairs). AllPairs (λ a b. a ≢ b) (map (λ pair. pair.0) pairs)) c.self.view_is (apart _ c.len.ensures.unique)
