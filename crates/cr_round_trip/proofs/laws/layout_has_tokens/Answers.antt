use Rattle.cr_round_trip.proofs.Laying as laying
use Rattle.cr_round_trip.proofs.laws.layout_has_tokens.Goals as goal

pub returns : goal.returns
returns c = laying.layout_has_tokens
