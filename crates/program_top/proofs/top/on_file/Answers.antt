use Rattle.std.proofs.Common.{refl, ap, Err}
use Rattle.program_answers.specs.Causes.{has_text, too_long}
use Rattle.program_answers.proofs.Reasons.{nothing_done}
use Rattle.program_top.proofs.top.on_file.Goals as goal

pub returns-in-Ok : goal.returns-in-Ok
returns-in-Ok g c =
    has_text c.as_slice.result.now (rw c.as_slice.ensures.value c.in-Ok.ensures.told)
    (rw c.as_slice.ensures.len (rw c.limit_of-limit.ensures at c.in-Ok.ensures.within_limit)) c.on_text.ensures

pub returns-in-Err-TooLarge : goal.returns-in-Err-TooLarge
returns-in-Err-TooLarge g c = too_long _ c.limit_of-limit.ensures (c.in-Err-TooLarge.ensures.too_large (ap Err c.in-Err-TooLarge.field-0-is)) refl (nothing_done _ _ refl refl)
