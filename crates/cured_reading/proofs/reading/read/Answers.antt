use Rattle.std.proofs.Common.{sym, subst}
use Rattle.cured_reading.specs.Faults.{TheVersion}
use Rattle.cured_reading.specs.Refusals.{IsRefused}
use Rattle.cured_reading.proofs.RefusalLaws.{uncured}
use Rattle.cured_reading.proofs.reading.read.Goals as goal

pub returns-in-Err-clause-refused : goal.returns-in-Err-clause-refused
returns-in-Err-clause-refused c =
    rw c.at.ensures
    (uncured c.args.text.now c.new-lines.result c.in-Err.wrong c.number.result c.new-lines.ensures.0 c.new-lines.ensures.1
    (subst (λ n. IsRefused TheVersion c.new-lines.result c.in-Err.wrong n) (sym c.number.ensures.0) c.in-Err.ensures.refused))
