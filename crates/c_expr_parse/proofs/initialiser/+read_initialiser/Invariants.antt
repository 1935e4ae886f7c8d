use Rattle.c_expr_parse.proofs.initialiser.+read_initialiser.Given as goal

abbrev pub decreases-read_initialiser : goal.decreases-read_initialiser
decreases-read_initialiser l = l.depth
