use Rattle.c_check_walk.proofs.walker.Walker.value.Goals as goal

pub returns-clause-grows : goal.returns-clause-grows
returns-clause-grows g c = λ any first h. c.value.ensures.grows any first (c.expr.ensures.grows any first h)
