use Rattle.c_expr_parse.proofs.AllReads.{inner_reads}
use Rattle.c_expr_parse.proofs.Promised.{one_expr}
use Rattle.c_expr_parse.proofs.laws.expressions_are_spelled_once.Goals as goal

pub returns : goal.returns
returns c = λ names least a b tokens small. one_expr names (inner_reads names) least small a b tokens
