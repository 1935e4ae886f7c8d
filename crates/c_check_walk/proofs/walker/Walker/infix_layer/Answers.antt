use Rattle.c_check_walk.proofs.walker.Walker.infix_layer.Goals as goal

pub returns-in_err-y-clause-grows : goal.returns-in_err-y-clause-grows
returns-in_err-y-clause-grows g c = λ any first h. c.in_err-y.ensures.grows any first (c.in_ok-x.ensures.grows any first h)

pub returns-clause-grows : goal.returns-clause-grows
returns-clause-grows g c = λ any first h. c.infix_of.ensures.grows any first (c.in_ok-y.ensures.grows any first (c.in_ok-x.ensures.grows any first h))
