use Rattle.c_check_walk.proofs.walker.Walker.postfix_layer.Goals as goal

pub returns-clause-grows : goal.returns-clause-grows
returns-clause-grows g c = λ any first h. c.step_after.ensures.grows any first (c.in_ok-x.ensures.grows any first h)
