use Rattle.c_tree.specs.Places.{nowhere}
use Rattle.c_tree.specs.TypedParts.{specified_type, made_by_type_name}
use Rattle.c_typing.specs.Declaring.{declarator_name}
use Rattle.c_typing.specs.Refusals.{name_place}
use Rattle.c_typing_laws.proofs.NodeNumbers.{numbered-from}
use Rattle.c_typing_laws.proofs.NumberedTrees.{type_name-makes}
use Rattle.c_typing_laws.proofs.NumberedWhole.{specifiers-numbers, declarator-numbers, prototype-numbers}
use Rattle.c_typing_laws.proofs.numbers.nodes_of_declarators_are_numbered.Goals as goal

pub returns-clause-type_name : goal.returns-clause-type_name
returns-clause-type_name c name t s r k h = numbered-from (made_by_type_name t) s r (type_name-makes name t s r k h)

pub returns-clause-specifiers : goal.returns-clause-specifiers
returns-clause-specifiers c = specifiers-numbers

pub returns-clause-declarator : goal.returns-clause-declarator
returns-clause-declarator c which base size d one s r k h = declarator-numbers (name_place (declarator_name d) nowhere) which (specified_type base) size d one s r k h

pub returns-clause-prototype : goal.returns-clause-prototype
returns-clause-prototype c = prototype-numbers
