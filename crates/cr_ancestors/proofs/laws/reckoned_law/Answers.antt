use Rattle.cr_ancestors.proofs.Reckoned.{reckoned}
use Rattle.cr_ancestors.proofs.laws.reckoned_law.Goals as goal

pub returns : goal.returns
returns c = λ hierarchy table class ancestors within all at. reckoned hierarchy within table all class ancestors at
