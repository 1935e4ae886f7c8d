use Rattle.c_check_operators.proofs.assigning.assign.Goals as goal

pub returns-clause-grows : goal.returns-clause-grows
returns-clause-grows c = λ any first h. c.assign_given.ensures.grows any first (c.given.ensures.grows any first h)
