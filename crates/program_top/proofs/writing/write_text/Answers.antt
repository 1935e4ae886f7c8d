use Rattle.std.proofs.Common.{refl}
use Rattle.program_answers.specs.Causes.{no_room}
use Rattle.program_answers.proofs.Reasons.{keeps_itself}
use Rattle.program_top.proofs.writing.write_text.Goals as goal

pub returns-in-Ok : goal.returns-in-Ok
returns-in-Ok g c action text input is kept =
    c.write_bytes.ensures action text input (rw c.as_slice.ensures.value (rw c.in-Ok.is at is)) kept

pub returns-in-Err : goal.returns-in-Err
returns-in-Err g c action text input is kept = no_room refl (record { untaken = kept; unwritten = keeps_itself _ })
