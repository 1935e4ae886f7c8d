use Rattle.std.proofs.Common.{refl}
use Rattle.command_words.specs.declared.command.Action.TheVariants.{Run}
use Rattle.program_answers.proofs.Reasons.{nothing_done}
use Rattle.program_top.proofs.Causing.{is_cured, refusal_cause}
use Rattle.program_top.proofs.running.run_text.Goals as goal

pub returns-in-Ok : goal.returns-in-Ok
returns-in-Ok g c = c.run_code.ensures (Run c.args.turns) _ refl (is_cured _ _ _ _ _ c.in-Ok.ensures.built)

pub returns-in-Err : goal.returns-in-Err
returns-in-Err g c =
    rw c.of_fault.ensures (refusal_cause (Run c.args.turns) _ c.in-Err.fault _ _ (λ why. why) c.in-Err.ensures.refused (nothing_done _ _ refl refl))
