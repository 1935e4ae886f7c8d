use Rattle.c_tree.specs.TypedParts.{specified_type}
use Rattle.c_tree.specs.Places.{nowhere}
use Rattle.c_typing.specs.Declaring.{declarator_name}
use Rattle.c_typing.specs.Refusals.{name_place}
use Rattle.c_typing_laws.proofs.JudgedWhole.{declarator-at, prototype-judged}
use Rattle.c_typing_laws.proofs.declarations.a_declarator_is_judged.Goals as goal

pub returns-clause-declarator : goal.returns-clause-declarator
returns-clause-declarator c which base size d one s r k b h = declarator-at (name_place (declarator_name d) nowhere) which (specified_type base) size d one s r k b h

pub returns-clause-prototype : goal.returns-clause-prototype
returns-clause-prototype c = prototype-judged
