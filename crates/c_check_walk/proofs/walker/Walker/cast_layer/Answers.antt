use Rattle.c_check_walk.proofs.walker.Walker.cast_layer.Goals as goal

pub returns-in_err-x-clause-grows : goal.returns-in_err-x-clause-grows
returns-in_err-x-clause-grows g c = λ any first h. c.in_err-x.ensures.grows any first (c.in_ok-to.ensures.grows any first h)

pub returns-clause-grows : goal.returns-clause-grows
returns-clause-grows g c = λ any first h. c.cast.ensures.grows any first (c.in_ok-x.ensures.grows any first (c.in_ok-to.ensures.grows any first h))
