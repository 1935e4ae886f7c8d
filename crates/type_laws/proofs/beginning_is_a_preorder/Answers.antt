use Rattle.type_laws.proofs.Pointers.{begins_with_own, begins_with_twice}
use Rattle.type_laws.proofs.beginning_is_a_preorder.Goals as goal

pub returns-clause-reflexive : goal.returns-clause-reflexive
returns-clause-reflexive c = begins_with_own

pub returns-clause-transitive : goal.returns-clause-transitive
returns-clause-transitive c = begins_with_twice
