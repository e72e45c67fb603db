use Rattle.cr_round_trip.proofs.Returning as returning
use Rattle.cr_round_trip.proofs.laws.format_is_still.Goals as goal

pub returns : goal.returns
returns c = returning.format_is_still
