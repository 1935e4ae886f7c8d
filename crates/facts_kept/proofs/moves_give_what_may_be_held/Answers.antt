use Rattle.facts_kept.proofs.Moving.{gives-moved}
use Rattle.facts_kept.proofs.moves_give_what_may_be_held.Goals as goal

pub returns : goal.returns
returns c w sites at depth t n p s sound = gives-moved w sound sites at t n s depth p
