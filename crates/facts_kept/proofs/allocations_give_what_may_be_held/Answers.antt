use Rattle.facts_kept.proofs.Allocating.{gives-block}
use Rattle.facts_kept.proofs.allocations_give_what_may_be_held.Goals as goal

pub returns : goal.returns
returns c w sites depth node t n s sound makes = gives-block w sound sites node t n makes s depth
