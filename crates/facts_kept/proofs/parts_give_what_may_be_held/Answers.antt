use Rattle.facts_kept.proofs.Addresses.{gives-decayed}
use Rattle.facts_kept.proofs.PlaceParts.{gives-member_place}
use Rattle.facts_kept.proofs.parts_give_what_may_be_held.Goals as goal

pub returns-clause-member : goal.returns-clause-member
returns-clause-member c w sites at depth outer node t i p s sound allowed = gives-member_place w sound sites s depth allowed at outer node t i p

pub returns-clause-array : goal.returns-clause-array
returns-clause-array c w sites at depth kind node array element n p s sound = gives-decayed w sound sites s depth at kind node array element n p
