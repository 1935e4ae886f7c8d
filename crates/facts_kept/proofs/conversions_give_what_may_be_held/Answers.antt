use Rattle.facts_kept.proofs.Conversions.{gives-converted}
use Rattle.facts_kept.proofs.conversions_give_what_may_be_held.Goals as goal

pub returns : goal.returns
returns c w sites at depth t u p s sound = gives-converted w sites at depth t u p s sound
