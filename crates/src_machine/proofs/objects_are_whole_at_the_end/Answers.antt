use Rattle.src_machine.proofs.WholeRuns.{whole_at_end}
use Rattle.src_machine.proofs.objects_are_whole_at_the_end.Goals as goal

pub returns : goal.returns
returns c = whole_at_end
