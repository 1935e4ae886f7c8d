use Rattle.c_check_walk.proofs.checking.declarator_behind.Goals as goal

pub returns-clause-grows : goal.returns-clause-grows
returns-clause-grows c = λ any first h. c.with_type.ensures.grows any first (c.in_ok-form.ensures.grows any first h)
