use Rattle.facts_kept.proofs.Addressing.{gives-addressed, gives-decayed_place}
use Rattle.facts_kept.proofs.addresses_ask_for_places.Goals as goal

pub returns-clause-address : goal.returns-clause-address
returns-clause-address c w sites depth kind node t p s sound = gives-addressed w sound sites s depth kind node t p

pub returns-clause-array : goal.returns-clause-array
returns-clause-array c w sites at depth kind node array element n p s sound = gives-decayed_place w sound sites s depth at kind node array element n p
