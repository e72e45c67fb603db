use Rattle.cr_ancestors.proofs.Ends.{ends_with_root}
use Rattle.cr_ancestors.proofs.laws.root_law.Goals as goal

pub returns : goal.returns
returns c = λ parents is_class root class ancestors rooted low is_one are. ends_with_root parents is_class root rooted class ancestors low is_one are
