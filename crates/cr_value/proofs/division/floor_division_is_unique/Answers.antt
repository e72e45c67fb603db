use Rattle.cr_value.proofs.Dividing.{floor_division_once}
use Rattle.cr_value.proofs.division.floor_division_is_unique.Goals as goal

pub returns : goal.returns
returns c = floor_division_once
