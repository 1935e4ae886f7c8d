use Rattle.cil_form.proofs.TypingLaws.{shaped-if, shaped-block, shaped-loop}
use Rattle.cil_form.proofs.laws.held_code_is_in_shape_as_its_list.Goals as goal

pub returns-clause-choice : goal.returns-clause-choice
returns-clause-choice c = shaped-if

pub returns-clause-once : goal.returns-clause-once
returns-clause-once c = shaped-block

pub returns-clause-again : goal.returns-clause-again
returns-clause-again c = shaped-loop
