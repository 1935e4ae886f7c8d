use Rattle.cured_reading.proofs.FaultLaws.{one_fault}
use Rattle.cured_reading.proofs.laws.a_text_has_one_fault.Goals as goal

pub returns : goal.returns
returns c = one_fault
