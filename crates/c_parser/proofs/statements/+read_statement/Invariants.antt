use Rattle.c_parser.proofs.statements.+read_statement.Given as goal

abbrev pub decreases-read_statement : goal.decreases-read_statement
decreases-read_statement l = l.depth
