use Rattle.sim_relation.proofs.Room.{related-call}
use Rattle.sim_relation.proofs.Leaving.{related-leave}
use Rattle.sim_relation.proofs.calls_keep_states_related.Goals as goal

pub returns-clause-entry : goal.returns-clause-entry
returns-clause-entry c = related-call

pub returns-clause-leaving : goal.returns-clause-leaving
returns-clause-leaving c = related-leave
