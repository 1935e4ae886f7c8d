use Rattle.src_mem.proofs.AccessesLie.{accesses_invariant}
use Rattle.src_mem.proofs.accesses_lie_in_objects.Goals as goal

pub returns : goal.returns
returns c = accesses_invariant
