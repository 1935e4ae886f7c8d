use Rattle.c_check_walk.proofs.walker.Walker.member.Goals as goal

pub returns-in_err-ty-clause-grows : goal.returns-in_err-ty-clause-grows
returns-in_err-ty-clause-grows g c = λ any first h. c.member_named.ensures.grows any first (c.form.ensures.grows any first h)

pub returns-clause-grows : goal.returns-clause-grows
returns-clause-grows g c = λ any first h. c.member_named.ensures.grows any first (c.form.ensures.grows any first h)
