use Rattle.c_tree.specs.TypedParts.{specified_type}
use Rattle.c_typing_laws.proofs.RefusedTrees.{type_name-refuses}
use Rattle.c_typing_laws.proofs.RefusedWhole.{whole-refuses, specifiers_of-refuses, declarator-refuses, prototype-refuses}
use Rattle.c_typing_laws.proofs.refusals.a_refused_declarator_breaks_its_first_rule.Goals as goal

pub returns-clause-type_name : goal.returns-clause-type_name
returns-clause-type_name c name s p t r k h = type_name-refuses p t name s r k h

pub returns-clause-whole : goal.returns-clause-whole
returns-clause-whole c all s p t r k h = whole-refuses p t all s r k h

pub returns-clause-by_place : goal.returns-clause-by_place
returns-clause-by_place c alone all s p t r k h = specifiers_of-refuses p t alone all s r k h

pub returns-clause-declarator : goal.returns-clause-declarator
returns-clause-declarator c which base size d s p t r k b h = declarator-refuses p t which (specified_type base) size d s r k b h

pub returns-clause-prototype : goal.returns-clause-prototype
returns-clause-prototype c at all s p t r k h = prototype-refuses p t at all s r k h
