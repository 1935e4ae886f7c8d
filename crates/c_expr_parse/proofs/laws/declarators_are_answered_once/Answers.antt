use Rattle.parse_rules.proofs.OneAnswer.{one_answer, read_not_deep}
use Rattle.c_tree.specs.Depth.{declarator_height}
use Rattle.c_parse_words.specs.Written.{IsWritten}
use Rattle.c_expr_parse.specs.Parts.{SpellsDeclarator}
use Rattle.c_expr_parse.proofs.AllReads.{inner_reads}
use Rattle.c_expr_parse.proofs.Promised.{one_declarator}
use Rattle.c_expr_parse.proofs.laws.declarators_are_answered_once.Goals as goal

pub returns-clause-one : goal.returns-clause-one
returns-clause-one c = λ names naming d tokens valid. one_answer IsWritten (SpellsDeclarator names naming) declarator_height d tokens valid (one_declarator names (inner_reads names) naming)

pub returns-clause-shallow : goal.returns-clause-shallow
returns-clause-shallow c = λ names naming d tokens valid. read_not_deep IsWritten (SpellsDeclarator names naming) declarator_height d tokens valid (one_declarator names (inner_reads names) naming)
