use Rattle.cr_parse.proofs.recursion.+read.Given as goal

abbrev pub decreases-read : goal.decreases-read
decreases-read l = l.deep
