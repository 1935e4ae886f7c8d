use Rattle.c_typing.proofs.GrowingLaws.{object-grows}
use Rattle.c_check_walk.proofs.parameters.parameter_declared.Goals as goal

pub returns-in_ok-declare-in-Parameter-clause-grows : goal.returns-in_ok-declare-in-Parameter-clause-grows
returns-in_ok-declare-in-Parameter-clause-grows c = λ table. object-grows table _ _ _ _ _ c.in_ok-declare-in-Parameter.ensures.declared
