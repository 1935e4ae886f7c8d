use Rattle.command_words.specs.declared.command.Action.TheVariants.{Kinds}
use Rattle.program_answers.proofs.Reasons.{keeps_itself}
use Rattle.program_top.proofs.Causing.{kinds_written, refusal_cause}
use Rattle.program_top.proofs.writing.kinds_text.Goals as goal

pub kinds-requires : goal.kinds-requires
kinds-requires g c = (_, c.in-Ok.ensures.inferred)

pub returns-in-Ok : goal.returns-in-Ok
returns-in-Ok g c input kept = c.write_text.ensures Kinds _ input (kinds_written _ _ _ _ _ c.kinds.ensures c.in-Ok.ensures.inferred) kept

pub returns-in-Err : goal.returns-in-Err
returns-in-Err g c input kept =
    rw c.of_fault.ensures (refusal_cause Kinds _ c.in-Err.fault input _ (λ why. why) c.in-Err.ensures.refused
    (record { untaken = kept; unwritten = keeps_itself _ }))
