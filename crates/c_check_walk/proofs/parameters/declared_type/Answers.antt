use Rattle.std.proofs.Common.{true}
use Rattle.c_check_walk.proofs.parameters.declared_type.Goals as goal

pub returns-in_err-t-clause-grows : goal.returns-in_err-t-clause-grows
returns-in_err-t-clause-grows c = λ first h. c.parameter_makes.ensures.grows true first h

pub returns-in-Some-clause-grows : goal.returns-in-Some-clause-grows
returns-in-Some-clause-grows c = λ first h. c.parameter_makes.ensures.grows true first h

pub returns-clause-grows : goal.returns-clause-grows
returns-clause-grows c = λ first h. c.parameter_declared.ensures.grows _ first (c.parameter_makes.ensures.grows true first h)
