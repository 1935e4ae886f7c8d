use Rattle.cil_form.proofs.ComputesLaws.{value-held, work-held, switch-held}
use Rattle.cil_form.proofs.laws.an_instruction_computes_its_value.Goals as goal

pub returns-clause-value : goal.returns-clause-value
returns-clause-value c = value-held

pub returns-clause-work : goal.returns-clause-work
returns-clause-work c = work-held

pub returns-clause-switch : goal.returns-clause-switch
returns-clause-switch c = switch-held
