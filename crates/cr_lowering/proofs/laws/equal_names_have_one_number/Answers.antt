use Rattle.std.proofs.Common.{subst}
use Rattle.cr_lowering.specs.Laws.{NamesOnce}
use Rattle.cr_lowering.proofs.Once.{names_once}
use Rattle.cr_lowering.proofs.laws.equal_names_have_one_number.Goals as goal

pub returns : goal.returns
returns c = subst NamesOnce c.names.ensures (names_once c.names.result.now c.len.ensures.distinct)
