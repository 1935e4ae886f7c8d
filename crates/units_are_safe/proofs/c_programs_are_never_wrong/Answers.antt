use Rattle.c_ready.proofs.ReadyUnit.{well-typed-ready}
use Rattle.lower_means.proofs.Units.{code-runs}
use Rattle.lower_shape.proofs.SitesKept.{program-told}
use Rattle.lower_shape.proofs.Whole.{program-shaped}
use Rattle.units_are_safe.proofs.Units.{unit-spares, unit-never_wrong}
use Rattle.units_are_safe.proofs.c_programs_are_never_wrong.Goals as goal

pub returns-clause-code : goal.returns-clause-code
returns-clause-code f unit program typed code = unit-spares unit program (well-typed-ready program.types unit typed) code

pub returns-clause-runs : goal.returns-clause-runs
returns-clause-runs f unit program kind input turns typed limits height lowered solution bytes =
    unit-never_wrong unit program kind input turns (well-typed-ready program.types unit typed) lowered.code (program-shaped unit program typed limits height lowered)
    (program-told unit program typed lowered) solution bytes (code-runs unit program lowered.code kind input turns)
