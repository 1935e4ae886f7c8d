use Rattle.parse_rules.proofs.OneAnswer.{one_answer, read_not_deep}
use Rattle.c_tree.specs.Depth.{initialiser_height}
use Rattle.c_parse_words.specs.Written.{IsWritten}
use Rattle.c_expr_parse.specs.Parts.{SpellsInitialiser}
use Rattle.c_expr_parse.proofs.AllReads.{inner_reads}
use Rattle.c_expr_parse.proofs.Promised.{one_initialiser}
use Rattle.c_expr_parse.proofs.laws.initialisers_are_answered_once.Goals as goal

pub returns-clause-one : goal.returns-clause-one
returns-clause-one c = λ names d tokens valid. one_answer IsWritten (SpellsInitialiser names) initialiser_height d tokens valid (one_initialiser names (inner_reads names))

pub returns-clause-shallow : goal.returns-clause-shallow
returns-clause-shallow c = λ names d tokens valid. read_not_deep IsWritten (SpellsInitialiser names) initialiser_height d tokens valid (one_initialiser names (inner_reads names))
