use Rattle.c_typing_laws.proofs.JudgedTrees.{expr-law, arguments-judged}
use Rattle.c_typing_laws.proofs.expressions.an_expression_is_judged.Goals as goal

pub returns-clause-expression : goal.returns-clause-expression
returns-clause-expression c called e o s r k h = expr-law called e o s r k h

pub returns-clause-arguments : goal.returns-clause-arguments
returns-clause-arguments c all values s r k h = arguments-judged all values s r k h
