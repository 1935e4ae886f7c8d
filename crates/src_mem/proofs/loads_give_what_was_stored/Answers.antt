use Rattle.src_mem.proofs.Spots.{integer_loads, pointer_loads}
use Rattle.src_mem.proofs.loads_give_what_was_stored.Goals as goal

pub returns-clause-integer : goal.returns-clause-integer
returns-clause-integer c = integer_loads

pub returns-clause-pointer : goal.returns-clause-pointer
returns-clause-pointer c = pointer_loads
