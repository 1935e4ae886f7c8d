use Rattle.command_words.specs.declared.command.Action.TheVariants.{Cure}
use Rattle.program_answers.proofs.Reasons.{keeps_itself}
use Rattle.program_top.proofs.Causing.{cured_written, is_cured, refusal_cause}
use Rattle.program_top.proofs.writing.cure_text.Goals as goal

pub returns-in-Ok : goal.returns-in-Ok
returns-in-Ok g c input kept =
    c.write_text.ensures Cure _ input (cured_written _ _ _ c.print.ensures (is_cured _ _ _ _ _ c.in-Ok.ensures.built)) kept

pub returns-in-Err : goal.returns-in-Err
returns-in-Err g c input kept =
    rw c.of_fault.ensures (refusal_cause Cure _ c.in-Err.fault input _ (λ why. why) c.in-Err.ensures.refused
    (record { untaken = kept; unwritten = keeps_itself _ }))
