use Rattle.sim_relation.proofs.Ends.{ends-alike}
use Rattle.sim_relation.proofs.related_states_end_alike.Goals as goal

pub returns : goal.returns
returns c = ends-alike
