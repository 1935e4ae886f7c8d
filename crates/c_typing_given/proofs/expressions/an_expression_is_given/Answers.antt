use Rattle.c_typing_given.proofs.TreesGiven.{expr-given, any-name-given}
use Rattle.c_typing_given.proofs.expressions.an_expression_is_given.Goals as goal

pub returns-clause-expression : goal.returns-clause-expression
returns-clause-expression c = λ T e basic limits. expr-given T basic limits.few e

pub returns-clause-name : goal.returns-clause-name
returns-clause-name c = λ T name basic limits. any-name-given T basic limits.few name
