use Rattle.cil_form.proofs.RunLaws.{loop-spent, loop-round}
use Rattle.cil_form.proofs.laws.a_loop_takes_a_turn_a_round.Goals as goal

pub returns-clause-spent : goal.returns-clause-spent
returns-clause-spent c = loop-spent

pub returns-clause-round : goal.returns-clause-round
returns-clause-round c = loop-round
