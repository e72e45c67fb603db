use Rattle.std.proofs.Common.{◌-◌, length}
use Rattle.cr_flow.proofs.under.end_of.Given as goal

abbrev pub decreases-rows : goal.decreases-rows
decreases-rows l = length l.rows - l.end
