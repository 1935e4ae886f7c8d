use Rattle.c_typing.proofs.GrowingLaws.{enumerator-grows}
use Rattle.c_check_walk.proofs.enumerators.plain.Goals as goal

pub returns-in_err-name-clause-grows : goal.returns-in_err-name-clause-grows
returns-in_err-name-clause-grows c = λ table. enumerator-grows table _ _ _ _ c.in_ok-declare.ensures.declared

pub returns-clause-grows : goal.returns-clause-grows
returns-clause-grows c = λ table. enumerator-grows table _ _ _ _ c.in_ok-declare.ensures.declared
