use Rattle.cr_value.proofs.Wrapping.{wrapped_once}
use Rattle.cr_value.proofs.arithmetic.wrapped_number_is_unique.Goals as goal

pub returns : goal.returns
returns c = wrapped_once
