use Rattle.c_check_walk.proofs.walker.Walker.member_layer.Goals as goal

pub returns-in_ok-x-in-Dot-clause-grows : goal.returns-in_ok-x-in-Dot-clause-grows
returns-in_ok-x-in-Dot-clause-grows g c = λ any first h. c.member.ensures.grows any first (c.in_ok-x-in-Dot.ensures.grows any first h)

pub returns-in_ok-x-in-Arrow-clause-grows : goal.returns-in_ok-x-in-Arrow-clause-grows
returns-in_ok-x-in-Arrow-clause-grows g c = λ any first h. c.pointed_member.ensures.grows any first (c.in_ok-x-in-Arrow.ensures.grows any first h)
