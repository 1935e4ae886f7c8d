use Rattle.c_typing_laws.proofs.JudgedTrees.{specifiers-judged}
use Rattle.c_typing_laws.proofs.JudgedWhole.{specifiers-whole, specifiers_of-judged}
use Rattle.c_typing_laws.proofs.declarations.specifiers_are_judged.Goals as goal

pub returns-clause-list : goal.returns-clause-list
returns-clause-list c all list s r k h = specifiers-judged all list s r k h

pub returns-clause-whole : goal.returns-clause-whole
returns-clause-whole c = specifiers-whole

pub returns-clause-by_place : goal.returns-clause-by_place
returns-clause-by_place c = specifiers_of-judged
