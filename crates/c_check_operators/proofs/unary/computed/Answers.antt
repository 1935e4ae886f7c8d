use Rattle.c_check_operators.proofs.unary.computed.Goals as goal

pub returns-clause-grows : goal.returns-clause-grows
returns-clause-grows c = λ any first h. c.prefix_of.ensures.grows any first (c.value.ensures.grows any first h)
