use Rattle.sim_laws.proofs.PlainKinds.{programs-plain}
use Rattle.sim_laws.proofs.programs_of_plain_kinds_are_plain.Goals as goal

pub returns : goal.returns
returns c = programs-plain
