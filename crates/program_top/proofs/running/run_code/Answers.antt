use Rattle.std.proofs.Common.{sym}
use Rattle.program_answers.specs.Causes.{ran}
use Rattle.program_top.proofs.running.run_code.Goals as goal

pub returns-in-Ok : goal.returns-in-Ok
returns-in-Ok g c action text same code =
    ran _ code c.run.result c.of_run.ensures (rw (same, sym c.in-Ok.ensures) c.run.ensures.ran)
