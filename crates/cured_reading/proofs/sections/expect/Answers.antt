use Rattle.std.proofs.Common.{refl}
use Rattle.cured_reading.proofs.ExitLaws.{exit-passes}
use Rattle.cured_reading.proofs.MisreadLaws.{no-name, another-name}
use Rattle.cured_reading.proofs.WordLaws.{different}
use Rattle.cured_reading.proofs.sections.expect.Goals as goal

pub returns-in_err-name-clause-none : goal.returns-in_err-name-clause-none
returns-in_err-name-clause-none c =
    exit-passes c.from_residual.result _ _ c.from_residual.ensures.1
    (c.in_err-name.ensures.none.0, no-name _ _ c.requires c.in_err-name.ensures.none.1)

pub returns-else-eq-clause-none : goal.returns-else-eq-clause-none
returns-else-eq-clause-none c =
    (refl, another-name _ _ _ _ c.requires c.in_ok-name.ensures.word c.in_ok-name.ensures.cut (λ e. different _ _ c.if-eq.ensures e))
