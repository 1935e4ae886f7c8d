use Rattle.std.proofs.Common.{[]}
use Rattle.facts_kept.proofs.Reading.{gives-loaded, gives-loaded_tagged, gives-loaded_integer, gives-loaded_integer_tagged}
use Rattle.facts_kept.proofs.loads_ask_for_places.Goals as goal

pub returns-clause-pointer : goal.returns-clause-pointer
returns-clause-pointer c w sites depth kind t u node p s sound e memory plain = gives-loaded w sound sites t u node e s depth memory kind plain p

pub returns-clause-wild_pointer : goal.returns-clause-wild_pointer
returns-clause-wild_pointer c w sites depth outer node t u p s sound e memory spreads is = gives-loaded_tagged w sound sites t u node e s depth memory outer spreads is p

pub returns-clause-integer : goal.returns-clause-integer
returns-clause-integer c w depth kind t i p s sound e plain = gives-loaded_integer w sound [] t i e s depth kind plain p

pub returns-clause-wild_integer : goal.returns-clause-wild_integer
returns-clause-wild_integer c w depth t i p s sound e = gives-loaded_integer_tagged w sound [] t i e s depth p
