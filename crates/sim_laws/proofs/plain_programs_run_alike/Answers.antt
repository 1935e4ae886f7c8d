use Rattle.sim_laws.proofs.Plain.{plain-alike}
use Rattle.sim_laws.proofs.plain_programs_run_alike.Goals as goal

pub returns : goal.returns
returns c = plain-alike
