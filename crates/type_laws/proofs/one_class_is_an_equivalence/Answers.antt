use Rattle.type_laws.proofs.Pointers.{class_own, class_turned, class_twice}
use Rattle.type_laws.proofs.one_class_is_an_equivalence.Goals as goal

pub returns-clause-reflexive : goal.returns-clause-reflexive
returns-clause-reflexive c = class_own

pub returns-clause-symmetric : goal.returns-clause-symmetric
returns-clause-symmetric c = class_turned

pub returns-clause-transitive : goal.returns-clause-transitive
returns-clause-transitive c table kind t u v w = class_twice table kind w t u v
