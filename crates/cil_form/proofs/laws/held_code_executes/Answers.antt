use Rattle.cil_form.proofs.ComputesLaws.{executes-choice, executes-block, executes-loop}
use Rattle.cil_form.proofs.laws.held_code_executes.Goals as goal

pub returns-clause-choice : goal.returns-clause-choice
returns-clause-choice c = executes-choice

pub returns-clause-once : goal.returns-clause-once
returns-clause-once c = executes-block

pub returns-clause-again : goal.returns-clause-again
returns-clause-again c = executes-loop
