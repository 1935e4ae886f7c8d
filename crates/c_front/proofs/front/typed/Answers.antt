use Rattle.c_front.proofs.Passes.{ill_typed_so, given_so, of_success, of_failure}
use Rattle.c_front.proofs.front.typed.Goals as goal

pub returns-in-Ok-clause-refused : goal.returns-in-Ok-clause-refused
returns-in-Ok-clause-refused c = ill_typed_so _ _ _ c.in-Ok.ensures.read c.check.ensures.judged c.check.ensures.refused

pub returns-in-Ok-clause-accepts : goal.returns-in-Ok-clause-accepts
returns-in-Ok-clause-accepts c T whole is =
    given_so _ _ _ c.requires c.check.ensures.accepts T whole is (of_success _ _ (c.in-Ok.ensures.accepts _ is.unit))

pub returns-in-Err-clause-accepts : goal.returns-in-Err-clause-accepts
returns-in-Err-clause-accepts c T whole is = of_failure _ _ (c.in-Err.ensures.accepts _ is.unit)
