use Rattle.c_type_order.proofs.UsedTrees.{type_name-uses, members-use, enumerators-use}
use Rattle.c_type_order.proofs.UsedWhole.{specifiers_of-used}
use Rattle.c_type_order.proofs.declarations.types_of_specifiers_are_used_in_order.Goals as goal

pub returns-clause-type_name : goal.returns-clause-type_name
returns-clause-type_name c name t s r k h = type_name-uses name t s r k h

pub returns-clause-specifiers : goal.returns-clause-specifiers
returns-clause-specifiers c alone all t s r k h = specifiers_of-used alone all t s r k h

pub returns-clause-members : goal.returns-clause-members
returns-clause-members c all rows s r k h = members-use all rows s r k h

pub returns-clause-enumerators : goal.returns-clause-enumerators
returns-clause-enumerators c all list s r k h = enumerators-use all list s r k h
