use Rattle.src_machine.proofs.Switches.{switches_run}
use Rattle.src_machine.proofs.switches_run_what_is_behind_their_label.Goals as goal

pub returns : goal.returns
returns c = switches_run
