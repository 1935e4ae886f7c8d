use Rattle.cil_form.proofs.RunLaws.{run-append}
use Rattle.cil_form.proofs.laws.code_runs_after_code.Goals as goal

pub returns : goal.returns
returns c = run-append
