use Rattle.cr_round_trip.proofs.Placed as placed
use Rattle.cr_round_trip.proofs.laws.places_leave_no_trace.Goals as goal

pub returns : goal.returns
returns c = placed.places_leave_no_trace
