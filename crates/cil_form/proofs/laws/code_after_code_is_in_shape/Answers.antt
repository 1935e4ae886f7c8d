use Rattle.cil_form.proofs.TypingLaws.{shaped-append}
use Rattle.cil_form.proofs.laws.code_after_code_is_in_shape.Goals as goal

pub returns : goal.returns
returns c = shaped-append
