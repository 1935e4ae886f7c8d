use Rattle.c_typing_laws.proofs.NumberedWhole.{expr-numbers, checked-numbers, checked_value-numbers, constant-numbers}
use Rattle.c_typing_laws.proofs.numbers.nodes_of_expressions_are_numbered.Goals as goal

pub returns-clause-expression : goal.returns-clause-expression
returns-clause-expression c = expr-numbers

pub returns-clause-value : goal.returns-clause-value
returns-clause-value c = checked-numbers

pub returns-clause-becomes : goal.returns-clause-becomes
returns-clause-becomes c = checked_value-numbers

pub returns-clause-constant : goal.returns-clause-constant
returns-clause-constant c = constant-numbers
