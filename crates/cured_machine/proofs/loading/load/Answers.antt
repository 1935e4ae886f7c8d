use Rattle.cured_machine.proofs.LoadLaws.{within-limits}
use Rattle.cured_machine.proofs.loading.load.Goals as goal

pub new-requires : goal.new-requires
new-requires c = rw c.in_ok-plan.ensures (within-limits c.args.functions.now c.args.globals.now c.requires.functions c.requires.globals c.requires.bytes)
