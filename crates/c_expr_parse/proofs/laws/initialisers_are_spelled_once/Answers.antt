use Rattle.c_expr_parse.proofs.AllReads.{inner_reads}
use Rattle.c_expr_parse.proofs.Promised.{one_initialiser}
use Rattle.c_expr_parse.proofs.laws.initialisers_are_spelled_once.Goals as goal

pub returns : goal.returns
returns c = λ names. one_initialiser names (inner_reads names)
