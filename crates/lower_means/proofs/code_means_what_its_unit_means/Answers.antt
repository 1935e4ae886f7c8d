use Rattle.lower_means.proofs.Units.{code-runs}
use Rattle.lower_means.proofs.code_means_what_its_unit_means.Goals as goal

pub returns : goal.returns
returns c = code-runs
