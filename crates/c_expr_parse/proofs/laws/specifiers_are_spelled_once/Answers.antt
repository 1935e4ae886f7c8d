use Rattle.c_expr_parse.proofs.AllReads.{inner_reads}
use Rattle.c_expr_parse.proofs.Promised.{one_list}
use Rattle.c_expr_parse.proofs.laws.specifiers_are_spelled_once.Goals as goal

pub returns : goal.returns
returns c = λ names. one_list names (inner_reads names)
