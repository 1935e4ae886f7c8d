use Rattle.c_check_walk.proofs.checking.judged_value.Goals as goal

pub returns-clause-grows : goal.returns-clause-grows
returns-clause-grows c = λ any first h. c.value.ensures.grows any first (c.in_ok-x.ensures.grows any first h)
