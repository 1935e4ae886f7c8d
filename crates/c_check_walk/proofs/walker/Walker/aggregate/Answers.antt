use Rattle.c_check_walk.proofs.walker.Walker.aggregate.Goals as goal

pub returns-in_err-rows-clause-grows : goal.returns-in_err-rows-clause-grows
returns-in_err-rows-clause-grows g c = λ any first h. c.members.ensures.grows any first (c.begun.ensures.grows any first h)

pub returns-in_err-t-2-clause-grows : goal.returns-in_err-t-2-clause-grows
returns-in_err-t-2-clause-grows g c = λ any first h. c.ended.ensures.grows any first (c.members.ensures.grows any first (c.begun.ensures.grows any first h))

pub returns-in_err-name-clause-grows : goal.returns-in_err-name-clause-grows
returns-in_err-name-clause-grows g c = λ any first h. c.ended.ensures.grows any first (c.members.ensures.grows any first (c.begun.ensures.grows any first h))

pub returns-clause-grows : goal.returns-clause-grows
returns-clause-grows g c = λ any first h. c.ended.ensures.grows any first (c.members.ensures.grows any first (c.begun.ensures.grows any first h))
