use Rattle.c_type_order.proofs.UsedTrees.{expr-uses, arguments-use}
use Rattle.c_type_order.proofs.UsedWhole.{checked-used, checked_value-used, constant-used}
use Rattle.c_type_order.proofs.expressions.types_of_expressions_are_used_in_order.Goals as goal

pub returns-clause-expression : goal.returns-clause-expression
returns-clause-expression c called e o s r k h = expr-uses e called o s r k h

pub returns-clause-arguments : goal.returns-clause-arguments
returns-clause-arguments c all values s r k h = arguments-use all values s r k h

pub returns-clause-value : goal.returns-clause-value
returns-clause-value c e v s r k h = checked-used e v s r k h

pub returns-clause-becomes : goal.returns-clause-becomes
returns-clause-becomes c t at init e v s r k h = checked_value-used t at init e v s r k h

pub returns-clause-constant : goal.returns-clause-constant
returns-clause-constant c e d s r k h = constant-used e d s r k h
