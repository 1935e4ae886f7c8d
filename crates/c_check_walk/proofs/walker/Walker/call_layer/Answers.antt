use Rattle.c_check_walk.proofs.walker.Walker.call_layer.Goals as goal

pub returns-in_err-f-clause-grows : goal.returns-in_err-f-clause-grows
returns-in_err-f-clause-grows g c = λ any first h. c.in_err-f.ensures.grows any first (c.in_ok-x.ensures.grows any first h)

pub returns-in_err-values-clause-grows : goal.returns-in_err-values-clause-grows
returns-in_err-values-clause-grows g c = λ any first h. c.in_err-values.ensures.grows any first (c.in_ok-f.ensures.grows any first (c.in_ok-x.ensures.grows any first h))

pub returns-clause-grows : goal.returns-clause-grows
returns-clause-grows g c = λ any first h. c.in_ok-values.ensures.grows any first (c.in_ok-f.ensures.grows any first (c.in_ok-x.ensures.grows any first h))
