use Rattle.type_laws.proofs.Levels.{still, widest}
use Rattle.type_laws.proofs.equality_is_the_widest.Goals as goal

pub returns-clause-one : goal.returns-clause-one
returns-clause-one c table w = still table w

pub returns-clause-widest : goal.returns-clause-widest
returns-clause-widest c table R w = widest table w R
