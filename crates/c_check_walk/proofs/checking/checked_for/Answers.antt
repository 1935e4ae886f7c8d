use Rattle.c_check_walk.proofs.checking.checked_for.Goals as goal

pub returns-in_err-part-clause-grows : goal.returns-in_err-part-clause-grows
returns-in_err-part-clause-grows c = λ any first h. c.in_err-part.ensures.grows any first (c.in_ok-x.ensures.grows any first h)

pub returns-in_err-converted_part-clause-grows : goal.returns-in_err-converted_part-clause-grows
returns-in_err-converted_part-clause-grows c = λ any first h. c.in_ok-part.ensures.grows any first (c.in_ok-x.ensures.grows any first h)

pub returns-clause-grows : goal.returns-clause-grows
returns-clause-grows c = λ any first h. c.in_ok-part.ensures.grows any first (c.in_ok-x.ensures.grows any first h)

pub returns-then-not-becomes-clause-grows : goal.returns-then-not-becomes-clause-grows
returns-then-not-becomes-clause-grows c = λ any first h. c.in_ok-part.ensures.grows any first (c.in_ok-x.ensures.grows any first h)
