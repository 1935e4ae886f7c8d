use Rattle.facts_kept.proofs.Writing.{gives-stored, gives-stored_tagged, gives-stored_integer, gives-stored_integer_tagged}
use Rattle.facts_kept.proofs.stores_ask_for_places.Goals as goal

pub returns-clause-pointer : goal.returns-clause-pointer
returns-clause-pointer c w sites depth kind t u node p q s sound e memory held made plain = gives-stored w sound sites t u node e s depth memory q held made kind plain p

pub returns-clause-wild_pointer : goal.returns-clause-wild_pointer
returns-clause-wild_pointer c w sites depth outer node t u p q s sound e memory held made spreads is = gives-stored_tagged w sound sites t u node e s depth memory q held made outer spreads is p

pub returns-clause-integer : goal.returns-clause-integer
returns-clause-integer c w sites depth kind t i p z s sound e memory ordered plain = gives-stored_integer w sound sites t i e s depth memory z kind plain p ordered

pub returns-clause-wild_integer : goal.returns-clause-wild_integer
returns-clause-wild_integer c w sites depth t i p z s sound e memory = gives-stored_integer_tagged w sound sites t i e s depth memory z p
