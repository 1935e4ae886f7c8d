use Rattle.std.proofs.Common.{refl}
use Rattle.program_answers.specs.Causes.{written, unwritten}
use Rattle.program_top.proofs.writing.write_bytes.Goals as goal

pub returns-in-Ok : goal.returns-in-Ok
returns-in-Ok g c action text input is kept = written _ is refl kept c.in-Ok.ensures.appended

pub returns-in-Err : goal.returns-in-Err
returns-in-Err g c action text input is kept = unwritten _ is refl kept c.in-Err.ensures.failed c.in-Err.ensures.front
