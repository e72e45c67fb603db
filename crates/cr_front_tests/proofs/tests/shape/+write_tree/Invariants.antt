use Rattle.cr_front_tests.proofs.tests.shape.+write_tree.Given as goal

abbrev pub decreases-write_tree : goal.decreases-write_tree
decreases-write_tree l = l.levels
