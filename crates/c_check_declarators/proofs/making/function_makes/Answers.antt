use Rattle.c_check_declarators.proofs.making.function_makes.Goals as goal

pub returns-in-Points-clause-grows : goal.returns-in-Points-clause-grows
returns-in-Points-clause-grows c = λ any first h. c.pointer_type.ensures.grows any first (c.in_ok-t.ensures.grows any first h)
