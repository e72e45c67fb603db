use Rattle.cr_descent.proofs.Computed as computed
use Rattle.cr_descent.proofs.examples.texts_are_refused.Goals as goal

pub returns : goal.returns
returns c = computed.refused_texts
