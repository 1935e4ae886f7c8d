use Rattle.cil_form.proofs.RunLaws.{act-if, act-block, act-loop}
use Rattle.cil_form.proofs.laws.held_code_runs_as_its_list.Goals as goal

pub returns-clause-choice : goal.returns-clause-choice
returns-clause-choice c = act-if

pub returns-clause-once : goal.returns-clause-once
returns-clause-once c = act-block

pub returns-clause-again : goal.returns-clause-again
returns-clause-again c = act-loop
