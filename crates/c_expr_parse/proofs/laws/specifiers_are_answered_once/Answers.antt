use Rattle.parse_rules.proofs.OneAnswer.{one_answer, read_not_deep}
use Rattle.c_tree.specs.Depth.{specifier_list_height}
use Rattle.c_parse_words.specs.Written.{IsWritten}
use Rattle.c_expr_parse.specs.Parts.{SpellsSpecifiers}
use Rattle.c_expr_parse.proofs.AllReads.{inner_reads}
use Rattle.c_expr_parse.proofs.Promised.{one_list}
use Rattle.c_expr_parse.proofs.laws.specifiers_are_answered_once.Goals as goal

pub returns-clause-one : goal.returns-clause-one
returns-clause-one c = λ names scope d tokens valid. one_answer IsWritten (SpellsSpecifiers names scope) specifier_list_height d tokens valid (one_list names (inner_reads names) scope)

pub returns-clause-shallow : goal.returns-clause-shallow
returns-clause-shallow c = λ names scope d tokens valid. read_not_deep IsWritten (SpellsSpecifiers names scope) specifier_list_height d tokens valid (one_list names (inner_reads names) scope)
