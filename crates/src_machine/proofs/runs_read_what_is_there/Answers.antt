use Rattle.src_machine.proofs.WholeRuns.{reads_what_is_there}
use Rattle.src_machine.proofs.runs_read_what_is_there.Goals as goal

pub returns : goal.returns
returns c = reads_what_is_there
