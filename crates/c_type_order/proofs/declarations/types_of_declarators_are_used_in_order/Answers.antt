use Rattle.c_tree.specs.Places.{nowhere}
use Rattle.c_tree.specs.TypedParts.{specified_type}
use Rattle.c_typing.specs.Declaring.{declarator_name}
use Rattle.c_typing.specs.Refusals.{name_place}
use Rattle.c_type_order.proofs.UsedTrees.{form-uses}
use Rattle.c_type_order.proofs.UsedWhole.{declarator-used, prototype-used}
use Rattle.c_type_order.proofs.declarations.types_of_declarators_are_used_in_order.Goals as goal

pub returns-clause-form : goal.returns-clause-form
returns-clause-form c which at d form s r k h = form-uses d which at form s r k h

pub returns-clause-declarator : goal.returns-clause-declarator
returns-clause-declarator c which base size d one s r k h =
    declarator-used (name_place (declarator_name d) nowhere) which (specified_type base) size d one s r k h

pub returns-clause-prototype : goal.returns-clause-prototype
returns-clause-prototype c at all list s r k h = prototype-used at all list s r k h
