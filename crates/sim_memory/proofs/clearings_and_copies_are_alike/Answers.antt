use Rattle.sim_memory.proofs.Clearing.{objects-cleared}
use Rattle.sim_memory.proofs.Copying.{structs-copied}
use Rattle.sim_memory.proofs.clearings_and_copies_are_alike.Goals as goal

pub returns-clause-clearing : goal.returns-clause-clearing
returns-clause-clearing f w number_of k o s x a n c found live plain celled r here wide = objects-cleared w number_of k o s x a n c found live plain celled r here wide

pub returns-clause-copy : goal.returns-clause-copy
returns-clause-copy f w number_of from to t p q s x a b m c sound complete plain typed r y z wide =
    structs-copied w number_of from to t p q s x a b m c sound complete plain typed r y z wide
