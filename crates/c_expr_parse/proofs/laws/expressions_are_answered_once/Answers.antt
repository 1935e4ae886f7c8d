use Rattle.parse_rules.proofs.OneAnswer.{one_answer, read_not_deep}
use Rattle.c_tree.specs.Depth.{expr_height}
use Rattle.c_parse_words.specs.Written.{IsWritten}
use Rattle.c_expr_parse.specs.Parts.{SpellsExpr}
use Rattle.c_expr_parse.proofs.AllReads.{inner_reads}
use Rattle.c_expr_parse.proofs.Promised.{one_expr}
use Rattle.c_expr_parse.proofs.laws.expressions_are_answered_once.Goals as goal

pub returns-clause-one : goal.returns-clause-one
returns-clause-one c = λ names least d tokens small valid. one_answer IsWritten (SpellsExpr names least) expr_height d tokens valid (one_expr names (inner_reads names) least small)

pub returns-clause-shallow : goal.returns-clause-shallow
returns-clause-shallow c = λ names least d tokens small valid. read_not_deep IsWritten (SpellsExpr names least) expr_height d tokens valid (one_expr names (inner_reads names) least small)
