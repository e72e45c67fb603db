use Rattle.std.proofs.Common.{◌≢◌, List, AllPairs, subst}
use Rattle.cr_instances.specs.declared.key.Key.{Key}
use Rattle.cr_instances.specs.contracts.key.KeyEq.TheImpl.Laws.{laws-law}
use Rattle.cr_instances.proofs.Found.{apart}
use Rattle.cr_instances.proofs.instances.Instances.count.Goals as goal

pub returns-clause-distinct : goal.returns-clause-distinct
returns-clause-distinct c =
    subst (λ (keys : List Key). AllPairs (λ a b. a ≢ b) keys) c.self.view_is (apart laws-law c.self.inside.keys.keys c.len.ensures.unique)
