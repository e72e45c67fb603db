use Rattle.cr_round_trip.proofs.Returning as returning
use Rattle.cr_round_trip.proofs.laws.round_trip.Goals as goal

pub returns : goal.returns
returns c = returning.round_trip
