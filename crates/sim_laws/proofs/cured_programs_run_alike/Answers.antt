use Rattle.sim_laws.proofs.Run.{runs-alike}
use Rattle.sim_laws.proofs.cured_programs_run_alike.Goals as goal

pub returns : goal.returns
returns c = runs-alike
