use Rattle.src_machine.proofs.WholeRuns.{accesses_lie}
use Rattle.src_machine.proofs.runs_stay_in_objects.Goals as goal

pub returns : goal.returns
returns c = accesses_lie
