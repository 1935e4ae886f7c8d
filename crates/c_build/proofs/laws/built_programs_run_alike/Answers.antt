use Rattle.c_build.proofs.AlikeLaws.{built_alike, kinds_alike}
use Rattle.c_build.proofs.laws.built_programs_run_alike.Goals as goal

pub returns-clause-plain : goal.returns-clause-plain
returns-clause-plain c = built_alike

pub returns-clause-kinds : goal.returns-clause-kinds
returns-clause-kinds c = kinds_alike
