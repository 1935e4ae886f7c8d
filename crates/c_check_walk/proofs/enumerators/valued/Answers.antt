use Rattle.c_check_walk.proofs.enumerators.valued.Goals as goal

pub returns-in_err-name-clause-grows : goal.returns-in_err-name-clause-grows
returns-in_err-name-clause-grows c = λ any first h. c.declared_constant.ensures.grows _ any first h

pub returns-clause-grows : goal.returns-clause-grows
returns-clause-grows c = λ any first h. c.declared_constant.ensures.grows _ any first h
