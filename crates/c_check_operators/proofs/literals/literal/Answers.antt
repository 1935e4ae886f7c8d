use Rattle.c_typing.proofs.GrowingLaws.{node-grows}
use Rattle.c_check_operators.proofs.literals.literal.Goals as goal

pub returns-in_err-t-clause-grows : goal.returns-in_err-t-clause-grows
returns-in_err-t-clause-grows c = λ any first h. c.string_type.ensures.grows any first (node-grows _ _ _ c.in-Some.ensures.given.2 any first h)

pub returns-in_err-_counted-clause-grows : goal.returns-in_err-_counted-clause-grows
returns-in_err-_counted-clause-grows c = λ any first h.
    c.count_global.ensures.grows any first (c.string_type.ensures.grows any first (node-grows _ _ _ c.in-Some.ensures.given.2 any first h))

pub returns-in_err-pieces-clause-grows : goal.returns-in_err-pieces-clause-grows
returns-in_err-pieces-clause-grows c = λ any first h.
    c.count_global.ensures.grows any first (c.string_type.ensures.grows any first (node-grows _ _ _ c.in-Some.ensures.given.2 any first h))

pub returns-in_err-new-clause-grows : goal.returns-in_err-new-clause-grows
returns-in_err-new-clause-grows c = λ any first h.
    c.count_global.ensures.grows any first (c.string_type.ensures.grows any first (node-grows _ _ _ c.in-Some.ensures.given.2 any first h))

pub returns-clause-grows : goal.returns-clause-grows
returns-clause-grows c = λ any first h.
    c.count_global.ensures.grows any first (c.string_type.ensures.grows any first (node-grows _ _ _ c.in-Some.ensures.given.2 any first h))
