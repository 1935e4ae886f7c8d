use Rattle.std.proofs.Common.{refl}
use Rattle.command_words.specs.declared.command.Action.TheVariants.{Exec}
use Rattle.program_answers.proofs.Reasons.{nothing_done}
use Rattle.program_top.proofs.Causing.{uncured_cause}
use Rattle.program_top.proofs.running.exec_text.Goals as goal

pub returns-in-Ok : goal.returns-in-Ok
returns-in-Ok g c = c.run_code.ensures (Exec c.args.turns) _ refl c.in-Ok.ensures.spelled

pub returns-in-Err : goal.returns-in-Err
returns-in-Err g c =
    rw c.of_cured_fault.ensures (uncured_cause c.args.turns _ c.in-Err.fault _ _ c.in-Err.ensures.refused (nothing_done _ _ refl refl))
