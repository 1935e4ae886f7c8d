use Rattle.c_check_declarators.proofs.aggregates.completed.Goals as goal

pub returns-clause-grows : goal.returns-clause-grows
returns-clause-grows c = λ any first h. c.complete.ensures.grows any first (c.in_ok-t.ensures.grows any first h)
