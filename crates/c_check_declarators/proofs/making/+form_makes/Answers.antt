use Rattle.c_check_declarators.proofs.making.+form_makes.Goals as goal

pub returns-in_err-t-2-clause-grows : goal.returns-in_err-t-2-clause-grows
returns-in_err-t-2-clause-grows t c = λ any first h. c.in_err-t-2.ensures.grows any first (c.in_ok-t.ensures.grows any first h)

pub returns-in-Nested-clause-grows : goal.returns-in-Nested-clause-grows
returns-in-Nested-clause-grows t c = λ any first h.
    c.form_makes.ensures.grows any first (c.in_ok-t-2.ensures.grows any first (c.in_ok-t.ensures.grows any first h))

pub returns-in_default-clause-grows : goal.returns-in_default-clause-grows
returns-in_default-clause-grows t c = λ any first h. c.in_ok-t-2.ensures.grows any first (c.in_ok-t.ensures.grows any first h)
