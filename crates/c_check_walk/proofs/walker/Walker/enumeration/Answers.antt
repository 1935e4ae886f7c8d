use Rattle.c_check_walk.proofs.walker.Walker.enumeration.Goals as goal

pub returns-in_err-enumeration_begun-clause-grows : goal.returns-in_err-enumeration_begun-clause-grows
returns-in_err-enumeration_begun-clause-grows g c = λ any first h. c.enumeration_begun.ensures.grows _ any first h

pub returns-in_err-list-clause-grows : goal.returns-in_err-list-clause-grows
returns-in_err-list-clause-grows g c = λ any first h. c.enumerators.ensures.grows any first (c.enumeration_begun.ensures.grows _ any first h)

pub returns-then-is_taken_enumeration-clause-grows : goal.returns-then-is_taken_enumeration-clause-grows
returns-then-is_taken_enumeration-clause-grows g c = λ any first h. c.enumerators.ensures.grows any first (c.enumeration_begun.ensures.grows _ any first h)

pub returns-in_default-clause-grows : goal.returns-in_default-clause-grows
returns-in_default-clause-grows g c = λ any first h. c.enumerators.ensures.grows any first (c.enumeration_begun.ensures.grows _ any first h)

pub returns-in_err-enumeration_ended-clause-grows : goal.returns-in_err-enumeration_ended-clause-grows
returns-in_err-enumeration_ended-clause-grows g c = λ any first h. c.enumeration_ended.ensures.grows _ any first (c.enumerators.ensures.grows any first (c.enumeration_begun.ensures.grows _ any first h))

pub returns-in_err-name-clause-grows : goal.returns-in_err-name-clause-grows
returns-in_err-name-clause-grows g c = λ any first h. c.enumeration_ended.ensures.grows _ any first (c.enumerators.ensures.grows any first (c.enumeration_begun.ensures.grows _ any first h))

pub returns-clause-grows : goal.returns-clause-grows
returns-clause-grows g c = λ any first h. c.enumeration_ended.ensures.grows _ any first (c.enumerators.ensures.grows any first (c.enumeration_begun.ensures.grows _ any first h))
