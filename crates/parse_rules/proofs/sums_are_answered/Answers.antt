use Rattle.parse_rules.proofs.Example.{one_sum, sums_answer}
use Rattle.parse_rules.proofs.sums_are_answered.Goals as goal

pub returns-clause-one_sum : goal.returns-clause-one_sum
returns-clause-one_sum c = one_sum

pub returns-clause-answered : goal.returns-clause-answered
returns-clause-answered c = sums_answer
