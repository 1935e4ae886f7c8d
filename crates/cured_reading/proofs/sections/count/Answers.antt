use Rattle.std.proofs.Common.{refl}
use Rattle.cured_reading.proofs.ExitLaws.{exit-passes}
use Rattle.cured_reading.proofs.RefusalLaws.{misread-miscounted}
use Rattle.cured_reading.proofs.sections.count.Goals as goal

pub returns-in_err-n-clause-refused : goal.returns-in_err-n-clause-refused
returns-in_err-n-clause-refused c =
    exit-passes c.from_residual.result _ _ c.from_residual.ensures.1
    (misread-miscounted c.args.name.now c.args.most c.args.limit _ _ _ c.in_err-n.ensures.misread)

pub returns-else-n-most-clause-refused : goal.returns-else-n-most-clause-refused
returns-else-n-most-clause-refused c =
    (refl, c.in_ok-n.ensures.counted, (c.in_ok-n.n, _, c.if-n-most.false, c.in_ok-n.ensures.small, c.in_ok-n.ensures.spelled))
