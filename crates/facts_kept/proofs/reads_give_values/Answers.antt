use Rattle.std.proofs.Common.{[]}
use Rattle.facts_kept.proofs.Reading.{gives-read_pointer, gives-read_integer}
use Rattle.facts_kept.proofs.reads_give_values.Goals as goal

pub returns-clause-pointer : goal.returns-clause-pointer
returns-clause-pointer c w sites place depth t u outer node p s sound e memory = gives-read_pointer w sound sites t u node e s depth memory place outer p

pub returns-clause-integer : goal.returns-clause-integer
returns-clause-integer c w place depth kind t i p s sound e = gives-read_integer w sound [] t i e s depth place kind p
