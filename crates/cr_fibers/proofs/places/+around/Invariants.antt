use Rattle.cr_fibers.proofs.places.+around.Given as goal

abbrev pub decreases-around : goal.decreases-around
decreases-around l = l.most
