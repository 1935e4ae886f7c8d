use Rattle.cil_form.proofs.ComputesLaws.{computes-append}
use Rattle.cil_form.proofs.laws.code_after_code_computes.Goals as goal

pub returns : goal.returns
returns c = computes-append
