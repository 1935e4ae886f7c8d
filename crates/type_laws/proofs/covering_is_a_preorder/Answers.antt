use Rattle.type_laws.proofs.Pointers.{covers_own, covers_twice}
use Rattle.type_laws.proofs.covering_is_a_preorder.Goals as goal

pub returns-clause-reflexive : goal.returns-clause-reflexive
returns-clause-reflexive c = covers_own

pub returns-clause-transitive : goal.returns-clause-transitive
returns-clause-transitive c table kind t u v w = covers_twice table kind w t u v
