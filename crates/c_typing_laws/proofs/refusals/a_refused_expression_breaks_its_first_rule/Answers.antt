use Rattle.c_typing_laws.proofs.RefusedTrees.{expr-refuses, arguments-refuses}
use Rattle.c_typing_laws.proofs.refusals.a_refused_expression_breaks_its_first_rule.Goals as goal

pub returns-clause-expression : goal.returns-clause-expression
returns-clause-expression c called e s p t r k h = expr-refuses p t e called s r k h

pub returns-clause-arguments : goal.returns-clause-arguments
returns-clause-arguments c all s p t r k h = arguments-refuses p t all s r k h
