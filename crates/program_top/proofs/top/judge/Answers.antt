use Rattle.std.proofs.Common.{Err, ap, refl}
use Rattle.program_answers.specs.Causes.{no_command, on_file, on_number, unread_words}
use Rattle.program_answers.proofs.Reasons.{nothing_done}
use Rattle.program_top.proofs.top.judge.Goals as goal

pub returns-in-Ok-OnFile : goal.returns-in-Ok-OnFile
returns-in-Ok-OnFile g c =
    on_file _ _ (rw (c.in-Ok-OnFile.is, c.in-Ok-OnFile.field-0-is) at c.command_of.ensures.command) c.on_file.ensures

pub returns-in-Ok-Make : goal.returns-in-Ok-Make
returns-in-Ok-Make g c =
    on_number _ (rw (c.in-Ok-Make.is, c.in-Ok-Make.field-0-is) at c.command_of.ensures.command) c.make_text.ensures

pub returns-in-Err-NoCommand : goal.returns-in-Err-NoCommand
returns-in-Err-NoCommand g c =
    no_command (rw (c.in-Err-NoCommand.is, c.in-Err-NoCommand.field-0-is) at c.command_of.ensures.command) refl (nothing_done _ _ refl refl)

pub returns-in-Err-NoMemory : goal.returns-in-Err-NoMemory
returns-in-Err-NoMemory g c =
    unread_words (c.in-Err-NoMemory.ensures.memory (ap Err c.in-Err-NoMemory.field-0-is)) refl (nothing_done _ _ refl refl)
