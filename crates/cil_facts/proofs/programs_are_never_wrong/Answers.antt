use Rattle.cil_facts.proofs.Programs.{never-wrong}
use Rattle.cil_facts.proofs.programs_are_never_wrong.Goals as goal

pub returns : goal.returns
returns f p kind input turns shaped told solution none bytes = never-wrong p kind shaped told solution none input bytes turns
