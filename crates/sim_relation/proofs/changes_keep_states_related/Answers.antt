use Rattle.sim_relation.proofs.Changes.{related-change}
use Rattle.sim_relation.proofs.changes_keep_states_related.Goals as goal

pub returns : goal.returns
returns c = related-change
