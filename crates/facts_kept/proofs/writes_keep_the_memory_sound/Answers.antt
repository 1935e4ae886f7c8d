use Rattle.facts_kept.proofs.Writing.{gives-written_pointer, gives-written_integer, gives-written_pointer_place, gives-written_integer_place}
use Rattle.facts_kept.proofs.Moments.{kept-sound, kept-held}
use Rattle.facts_kept.proofs.writes_keep_the_memory_sound.Goals as goal

pub returns-clause-pointer : goal.returns-clause-pointer
returns-clause-pointer c w sites own assignment depth t u outer node p q s sound e memory spreads target held made = gives-written_pointer w sound sites t u node e s depth memory q held made own assignment outer p spreads target

pub returns-clause-integer : goal.returns-clause-integer
returns-clause-integer c w sites own assignment depth kind t i p z s sound e memory = gives-written_integer w sound sites t i e s depth memory z own assignment kind p

pub returns-clause-pointer_place : goal.returns-clause-pointer_place
returns-clause-pointer_place c w sites own assignment depth t u outer node p q s sound e memory spreads target held made = gives-written_pointer_place w sound sites t u node e s depth memory q held made own assignment outer p spreads target

pub returns-clause-integer_place : goal.returns-clause-integer_place
returns-clause-integer_place c w sites own assignment depth kind t i p z s sound e memory = gives-written_integer_place w sound sites t i e s depth memory z own assignment kind p

pub returns-clause-moment : goal.returns-clause-moment
returns-clause-moment c = kept-sound

pub returns-clause-held : goal.returns-clause-held
returns-clause-held c = kept-held
