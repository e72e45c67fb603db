use Rattle.std.proofs.Common.{◌≡◌, List, ◌++◌, ◌∷◌, [], Contains, ◌∙◌, subst}
use Rattle.cr_instances.specs.declared.key.Key.{Key}
use Rattle.cr_instances.proofs.Keys.{key_same}
use Rattle.cr_instances.proofs.Found.{stands, put_last}
use Rattle.cr_instances.proofs.instances.Instances.add.Goals as goal

pub returns-clause-place : goal.returns-clause-place
returns-clause-place c = stands key_same c.insert_full.new.self.keys c.args.key c.in_ok-place.place c.in_ok-place.ensures.stored

pub returns-clause-fresh : goal.returns-clause-fresh
returns-clause-fresh c =
    subst (λ (keys : List Key). (Contains keys c.args.key → ⊥) → c.insert_full.new.self.keys ≡ keys ++ c.args.key ∷ []) c.self.view_is
    (λ none. c.in_ok-place.ensures.keys ∙ put_last key_same c.self.inside.keys.keys c.args.key none)
