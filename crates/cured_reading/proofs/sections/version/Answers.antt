use Rattle.cured_reading.specs.Faults.{TheVersion, Version}
use Rattle.cured_reading.proofs.ExitLaws.{exit-passes}
use Rattle.cured_reading.proofs.RefusalLaws.{one-read, misread-fails, version-fails}
use Rattle.cured_reading.proofs.SectionLaws.{only-version}
use Rattle.cured_reading.proofs.sections.version.Goals as goal

pub returns-in_err-n-clause-refused : goal.returns-in_err-n-clause-refused
returns-in_err-n-clause-refused c =
    exit-passes c.from_residual.result _ _ c.from_residual.ensures.1
    (misread-fails Version TheVersion _ _ _ only-version (λ d. d) c.in_err-n.ensures.misread)

pub returns-else-n-eq1-clause-refused : goal.returns-else-n-eq1-clause-refused
returns-else-n-eq1-clause-refused c =
    version-fails TheVersion (Version c.in_ok-n.n) _ _ _ tt (c.in_ok-n.ensures.small, tt) c.if-n-eq1.false c.in_ok-n.ensures.spelled c.in_ok-n.ensures.counted

pub returns-then-n-eq1-clause-read : goal.returns-then-n-eq1-clause-read
returns-then-n-eq1-clause-read c =
    one-read TheVersion (Version c.in_ok-n.n) _ _
    (record { stands = tt; writable = (c.in_ok-n.ensures.small, tt); known = λ o. o c.if-n-eq1.true; limits = λ l p. p; range = tt })
    c.in_ok-n.ensures.spelled c.in_ok-n.ensures.counted
