use Rattle.std.proofs.Common.{true}
use Rattle.c_check_walk.proofs.parameters.made_parameter.Goals as goal

pub returns-in_err-adjusted-clause-grows : goal.returns-in_err-adjusted-clause-grows
returns-in_err-adjusted-clause-grows c = λ first h. c.adjusted_with_node.ensures.grows _ true first h

pub returns-in_err-ty-clause-grows : goal.returns-in_err-ty-clause-grows
returns-in_err-ty-clause-grows c = λ first h. c.declared_type.ensures.grows first (c.adjusted_with_node.ensures.grows _ true first h)

pub returns-clause-grows : goal.returns-clause-grows
returns-clause-grows c = λ first h. c.declared_type.ensures.grows first (c.adjusted_with_node.ensures.grows _ true first h)
